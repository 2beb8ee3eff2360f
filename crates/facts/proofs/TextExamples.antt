-- The texts of facts, and whether two facts are the same.
use Rattle.std.proofs.Common.{◌≡◌, ℕ, true, false, List, [], ◌∷◌, ◌++◌, map, replicate, refl}
use Rattle.std.specs.Prelude.{codes, decimal}
use Rattle.facts.specs.declared.symbols.KeySourceOver.TheVariants.{Const as FixedKey, Slot as SlotKey}
use Rattle.facts.specs.Symbols.{Fact}
use Rattle.facts.specs.declared.symbols.FactOver.TheVariants.{Hash, Size, Truth, Is, KeyForm, Form, Token, Assigned, Lock, Age}
use Rattle.facts.specs.Symbols.{Stated}
use Rattle.facts.specs.Texts.{text_of, hex_text}
use Rattle.facts.specs.Sameness.{same_fact, contradicts}

abbrev yes : Fact → Stated
yes f = record { fact = f; holds = true }

abbrev no : Fact → Stated
no f = record { fact = f; holds = false }

digits : hex_text (0x00 ∷ 0x09 ∷ 0x0a ∷ 0x9f ∷ 0xa0 ∷ 0xff ∷ 0x3c ∷ []) ≡ codes "00090a9fa0ff3c"
digits = refl

-- decimal digits are defined by std
texts : (i n : ℕ) → map text_of (yes (Hash i (0x33 ∷ 0xaf ∷ [])) ∷ no (Hash i (0 ∷ [])) ∷ no (Size i n) ∷ yes (Size i n) ∷ yes (Truth i) ∷ no (Truth i) ∷ yes (Is i []) ∷ no (Is i (0x0a ∷ [])) ∷ yes (KeyForm i) ∷ yes (Form i) ∷ yes (Lock n) ∷ yes (Age n) ∷ []) ≡
    (codes "hash " ++ (decimal i ++ codes " 33af yes")) ∷ (codes "hash " ++ (decimal i ++ codes " 00 no")) ∷ (codes "size " ++ (decimal i ++ (codes " " ++ (decimal n ++ codes " no")))) ∷ (codes "size " ++ (decimal i ++ (codes " " ++ (decimal n ++ codes " yes"))))
    ∷ (codes "truth " ++ (decimal i ++ codes " yes")) ∷ (codes "truth " ++ (decimal i ++ codes " no")) ∷ (codes "is " ++ (decimal i ++ codes " - yes")) ∷ (codes "is " ++ (decimal i ++ codes " 0a no")) ∷ (codes "key " ++ decimal i) ∷ (codes "form " ++ decimal i) ∷ (codes "lock " ++ decimal n) ∷ (codes "age " ++ decimal n) ∷ []
texts i n = refl

token_texts : (i j : ℕ) → (text_of (yes (Token i (FixedKey (2 ∷ 0x11 ∷ [])))) ≡ codes "token " ++ (decimal i ++ codes " 0211 yes")) × (text_of (no (Token i (SlotKey j))) ≡ codes "token " ++ (decimal i ++ (codes " slot " ++ (decimal j ++ codes " no"))))
token_texts i j = (refl, refl)

assigned_texts : (i j : ℕ) → (text_of (no (Assigned (i ∷ []) (SlotKey j ∷ []))) ≡ codes "assigned " ++ ((decimal i ++ []) ++ (codes " " ++ (((codes "slot " ++ decimal j) ++ []) ++ codes " no"))))
    × (text_of (yes (Assigned (i ∷ j ∷ []) (FixedKey (2 ∷ 0x11 ∷ []) ∷ FixedKey (3 ∷ []) ∷ []))) ≡ codes "assigned " ++ ((decimal i ++ (codes "," ++ (decimal j ++ []))) ++ codes " 0211,03 yes"))
assigned_texts i j = (refl, refl)

-- a fact of each kind
kinds : List Fact
kinds = Hash 0 (1 ∷ []) ∷ Size 0 1 ∷ Truth 0 ∷ Is 0 (1 ∷ []) ∷ KeyForm 0 ∷ Form 0 ∷ Token 0 (SlotKey 1) ∷ Assigned (0 ∷ []) (SlotKey 1 ∷ []) ∷ Lock 0 ∷ Age 0 ∷ []

-- each fact is the same as itself, and as none of the other nine
sames : map (λ f. map (same_fact f) kinds) kinds ≡
    (true ∷ replicate 9 false)
    ∷ (replicate 1 false ++ (true ∷ replicate 8 false))
    ∷ (replicate 2 false ++ (true ∷ replicate 7 false))
    ∷ (replicate 3 false ++ (true ∷ replicate 6 false))
    ∷ (replicate 4 false ++ (true ∷ replicate 5 false))
    ∷ (replicate 5 false ++ (true ∷ replicate 4 false))
    ∷ (replicate 6 false ++ (true ∷ replicate 3 false))
    ∷ (replicate 7 false ++ (true ∷ replicate 2 false))
    ∷ (replicate 8 false ++ (true ∷ replicate 1 false))
    ∷ (replicate 9 false ++ (true ∷ []))
    ∷ []
unfolding kinds
sames = refl

-- another slot, other bytes, another number, another key or another order makes another fact
others : map {A = Fact × Fact} (λ pair. same_fact pair.0 pair.1) (
    (Hash 0 (1 ∷ []), Hash 1 (1 ∷ [])) ∷ (Hash 0 (1 ∷ []), Hash 0 (2 ∷ [])) ∷ (Size 0 1, Size 1 1) ∷ (Size 0 1, Size 0 2) ∷ (Truth 0, Truth 1) ∷ (Is 0 [], Is 1 []) ∷ (Is 0 [], Is 0 (0 ∷ []))
    ∷ (KeyForm 0, KeyForm 1) ∷ (Form 0, Form 1) ∷ (Token 0 (SlotKey 1), Token 2 (SlotKey 1)) ∷ (Token 0 (SlotKey 1), Token 0 (SlotKey 2)) ∷ (Token 0 (SlotKey 1), Token 0 (FixedKey (1 ∷ []))) ∷ (Token 0 (FixedKey (1 ∷ [])), Token 0 (FixedKey (2 ∷ [])))
    ∷ (Assigned (0 ∷ 1 ∷ []) [], Assigned (1 ∷ 0 ∷ []) []) ∷ (Assigned (0 ∷ []) (SlotKey 1 ∷ SlotKey 2 ∷ []), Assigned (0 ∷ []) (SlotKey 2 ∷ SlotKey 1 ∷ [])) ∷ (Assigned (0 ∷ []) (SlotKey 1 ∷ []), Assigned (0 ∷ []) (SlotKey 1 ∷ SlotKey 1 ∷ [])) ∷ (Lock 1, Lock 2) ∷ (Age 1, Age 2) ∷ []) ≡ replicate 18 false
others = refl

same_long : same_fact (Assigned (0 ∷ 1 ∷ []) (SlotKey 1 ∷ FixedKey (2 ∷ 3 ∷ []) ∷ [])) (Assigned (0 ∷ 1 ∷ []) (SlotKey 1 ∷ FixedKey (2 ∷ 3 ∷ []) ∷ [])) ≡ true
same_long = refl

-- a fact with both polarities, at any positions; a repeated fact is not a contradiction
contradictions : map contradicts ((yes (Truth 0) ∷ no (Truth 0) ∷ []) ∷ (no (Truth 0) ∷ yes (Form 1) ∷ yes (Truth 0) ∷ []) ∷ (yes (Form 1) ∷ yes (Truth 1) ∷ no (Truth 1) ∷ []) ∷ []) ≡ true ∷ true ∷ true ∷ []
contradictions = refl

no_contradictions : map contradicts ([] ∷ (yes (Truth 0) ∷ []) ∷ (yes (Truth 0) ∷ yes (Truth 0) ∷ []) ∷ (no (Truth 0) ∷ no (Truth 0) ∷ []) ∷ (yes (Truth 0) ∷ no (Truth 1) ∷ []) ∷ (yes (Truth 0) ∷ no (Is 0 []) ∷ []) ∷ []) ≡ replicate 6 false
no_contradictions = refl
