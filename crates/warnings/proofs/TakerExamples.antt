-- Who can take what a path spends.
use Rattle.std.proofs.Common.{◌≡◌, true, false, [], ◌∷◌, map, refl}
use Rattle.facts.specs.Symbols.{Fact, Stated}
use Rattle.facts.specs.declared.symbols.KeySourceOver.TheVariants.{Const as FixedKey, Slot as SlotKey}
use Rattle.facts.specs.declared.symbols.FactOver.TheVariants.{Hash, Size, Truth, Is, KeyForm, Form, Token, Assigned, Lock, Age}
use Rattle.warnings.specs.declared.takers.Taker.TheVariants.{Signer, Finder, Anyone}
use Rattle.warnings.specs.Takers.{taker_of, takes_hashed_key}

abbrev yes : Fact → Stated
yes fact = record { fact = fact; holds = true }

abbrev no : Fact → Stated
no fact = record { fact = fact; holds = false }

-- a signature of a key in the script, of a key with a given hash, and of one that is given itself; of any key, of a key whose hash is not the given one, and of a key of which another slot is the hash;
-- a signature that is to be none; what has a hash; locks, lengths and truths alone
signers : map taker_of (
    (yes (Token 0 (FixedKey (2 ∷ []))) ∷ []) ∷ (yes (Hash 0 (7 ∷ [])) ∷ yes (Token 1 (SlotKey 0)) ∷ []) ∷ (yes (Token 1 (SlotKey 0)) ∷ yes (Is 0 (7 ∷ [])) ∷ [])
    ∷ (yes (Token 1 (SlotKey 0)) ∷ []) ∷ (no (Hash 0 (7 ∷ [])) ∷ yes (Token 1 (SlotKey 0)) ∷ []) ∷ (yes (Hash 1 (7 ∷ [])) ∷ yes (Token 1 (SlotKey 0)) ∷ [])
    ∷ (no (Token 0 (FixedKey (2 ∷ []))) ∷ []) ∷ (yes (Size 0 32) ∷ yes (Hash 0 (7 ∷ [])) ∷ []) ∷ (yes (Lock 5) ∷ yes (Age 5) ∷ yes (Truth 0) ∷ yes (Form 0) ∷ []) ∷ [] ∷ []) ≡
    Signer ∷ Signer ∷ Signer ∷ Anyone ∷ Anyone ∷ Finder ∷ Anyone ∷ Finder ∷ Anyone ∷ Anyone ∷ []
unfolding taker_of
signers = refl

-- of several keys: as many signatures as keys that are free, and one more; no signature at all
several : map taker_of (
    (yes (Assigned (2 ∷ 1 ∷ []) (FixedKey (2 ∷ []) ∷ FixedKey (3 ∷ []) ∷ [])) ∷ [])
    ∷ (yes (Assigned (1 ∷ []) (FixedKey (2 ∷ []) ∷ SlotKey 0 ∷ [])) ∷ [])
    ∷ (yes (Assigned (2 ∷ 1 ∷ []) (FixedKey (2 ∷ []) ∷ SlotKey 0 ∷ [])) ∷ [])
    ∷ (yes (Hash 0 (7 ∷ [])) ∷ yes (Assigned (1 ∷ []) (FixedKey (2 ∷ []) ∷ SlotKey 0 ∷ [])) ∷ [])
    ∷ (yes (Assigned [] (FixedKey (2 ∷ []) ∷ [])) ∷ []) ∷ (no (Assigned (1 ∷ []) (FixedKey (2 ∷ []) ∷ [])) ∷ []) ∷ []) ≡
    Signer ∷ Anyone ∷ Signer ∷ Signer ∷ Anyone ∷ Anyone ∷ []
unfolding taker_of
several = refl

-- the same slot has the form of a key and a hash
hashed_keys : map takes_hashed_key (
    (yes (Hash 0 (7 ∷ [])) ∷ yes (KeyForm 0) ∷ []) ∷ (yes (Hash 1 (7 ∷ [])) ∷ yes (KeyForm 0) ∷ []) ∷ (no (Hash 0 (7 ∷ [])) ∷ yes (KeyForm 0) ∷ [])
    ∷ (yes (Hash 0 (7 ∷ [])) ∷ no (KeyForm 0) ∷ []) ∷ (yes (Is 0 (7 ∷ [])) ∷ yes (KeyForm 0) ∷ []) ∷ (yes (Hash 0 (7 ∷ [])) ∷ []) ∷ []) ≡
    true ∷ false ∷ false ∷ false ∷ false ∷ false ∷ []
hashed_keys = refl
