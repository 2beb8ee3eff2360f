-- A sentence from what its parts are.
use Rattle.std.proofs.Common.{◌≡◌, ◌⊎◌, inl, inr, ℕ, ◌++◌, List, Bool, codes, decimal, refl}
use Rattle.facts.specs.Symbols.{Fact, KeySource}
use Rattle.facts.specs.declared.symbols.FactOver.TheVariants.{Hash, Size, Is, Truth, KeyForm, Form, Assigned}
use Rattle.facts.specs.Texts.{hex_text, key_text, comma_separated}
use Rattle.trace.specs.Sentences.{about, slot_words, sentence_by}

pub bytes_sentence : (fact : Fact) (holds : Bool) (text hex : List ℕ) (slot : ℕ) (bytes : List ℕ) → (fact ≡ Hash slot bytes) ⊎ (fact ≡ Is slot bytes) → text ≡ about fact holds → hex ≡ bytes → slot_words slot (text ++ hex_text hex) ≡ sentence_by fact holds
bytes_sentence fact holds text hex slot bytes (inl is) told same = rw (told, is, same) refl
bytes_sentence fact holds text hex slot bytes (inr is) told same = rw (told, is, same) refl

pub slot_sentence : (fact : Fact) (holds : Bool) (text : List ℕ) (slot : ℕ) → (fact ≡ Truth slot) ⊎ (fact ≡ KeyForm slot) ⊎ (fact ≡ Form slot) → text ≡ about fact holds → slot_words slot text ≡ sentence_by fact holds
slot_sentence fact holds text slot (inl is) told = rw (told, is) refl
slot_sentence fact holds text slot (inr (inl is)) told = rw (told, is) refl
slot_sentence fact holds text slot (inr (inr is)) told = rw (told, is) refl

pub size_sentence : (fact : Fact) (holds : Bool) (text : List ℕ) (slot size number : ℕ) → fact ≡ Size slot size → text ≡ about fact holds → number ≡ size → slot_words slot (text ++ (decimal number ++ codes " bytes long")) ≡ sentence_by fact holds
size_sentence fact holds text slot size number is told same = rw (told, is, same) refl

pub assigned_sentence : (fact : Fact) (holds : Bool) (text : List ℕ) (slots these : List ℕ) (keys those : List KeySource) → fact ≡ Assigned slots keys → text ≡ about fact holds → these ≡ slots → those ≡ keys → codes "slots " ++ (comma_separated decimal these ++ (text ++ (comma_separated key_text those ++ codes " in their order"))) ≡ sentence_by fact holds
assigned_sentence fact holds text slots these keys those is told same alike = rw (told, is, same, alike) refl
