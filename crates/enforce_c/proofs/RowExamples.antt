-- The rows of a fact of each kind, with the numbers of the header; and where a row's bytes and keys are.
use Rattle.std.proofs.Common.{◌≡◌, true, false, List, [], ◌∷◌, map, refl}
use Rattle.facts.specs.declared.symbols.KeySourceOver.TheVariants.{Const as FixedKey, Slot as SlotKey}
use Rattle.facts.specs.Symbols.{Fact, Stated}
use Rattle.facts.specs.declared.symbols.FactOver.TheVariants.{Hash, Size, Truth, Is, KeyForm, Form, Token, Assigned, Lock, Age}
use Rattle.enforce_c.specs.declared.rows.FactRow.{FactRow}
use Rattle.enforce_c.specs.Rows.{no_rows, with_fact, with_facts}

abbrev yes : Fact → Stated
yes f = record { fact = f; holds = true }

abbrev facts : List Stated
facts =
    yes (Hash 7 (0x0a ∷ 0xff ∷ [])) ∷ yes (Size 7 32) ∷ yes (Truth 7) ∷ yes (Is 7 (5 ∷ [])) ∷ yes (KeyForm 7) ∷ yes (Form 7) ∷ yes (Token 7 (SlotKey 8)) ∷ yes (Lock 500) ∷ yes (Age 144)
    ∷ yes (Assigned (3 ∷ 4 ∷ []) (FixedKey (1 ∷ 2 ∷ 3 ∷ []) ∷ SlotKey 9 ∷ [])) ∷ []

abbrev rows : List FactRow
rows = (with_facts facts no_rows).facts

-- a choice has a row of its own, and one for each slot and each key
kinds : map (λ (r : FactRow). r.kind) rows ≡ 1 ∷ 2 ∷ 3 ∷ 4 ∷ 5 ∷ 6 ∷ 7 ∷ 11 ∷ 12 ∷ 8 ∷ 9 ∷ 9 ∷ 10 ∷ 10 ∷ []
unfolding with_fact
kinds = refl

slots : map (λ (r : FactRow). r.slot) rows ≡ 7 ∷ 7 ∷ 7 ∷ 7 ∷ 7 ∷ 7 ∷ 7 ∷ 0 ∷ 0 ∷ 0 ∷ 3 ∷ 4 ∷ 0 ∷ 0 ∷ []
unfolding with_fact
slots = refl

numbers : map (λ (r : FactRow). r.number) rows ≡ 0 ∷ 32 ∷ 0 ∷ 0 ∷ 0 ∷ 0 ∷ 0 ∷ 500 ∷ 144 ∷ 0 ∷ 0 ∷ 0 ∷ 0 ∷ 0 ∷ []
unfolding with_fact
numbers = refl

keys : (map (λ (r : FactRow). r.key_is_slot) rows ≡ false ∷ false ∷ false ∷ false ∷ false ∷ false ∷ true ∷ false ∷ false ∷ false ∷ false ∷ false ∷ false ∷ true ∷ [])
    × (map (λ (r : FactRow). r.key_slot) rows ≡ 0 ∷ 0 ∷ 0 ∷ 0 ∷ 0 ∷ 0 ∷ 8 ∷ 0 ∷ 0 ∷ 0 ∷ 0 ∷ 0 ∷ 0 ∷ 9 ∷ [])
unfolding with_fact
keys = (refl, refl)

bytes : (map (λ (r : FactRow). r.bytes_at) rows ≡ 0 ∷ 0 ∷ 0 ∷ 2 ∷ 0 ∷ 0 ∷ 0 ∷ 0 ∷ 0 ∷ 0 ∷ 0 ∷ 0 ∷ 3 ∷ 0 ∷ [])
    × (map (λ (r : FactRow). r.bytes_length) rows ≡ 2 ∷ 0 ∷ 0 ∷ 1 ∷ 0 ∷ 0 ∷ 0 ∷ 0 ∷ 0 ∷ 0 ∷ 0 ∷ 0 ∷ 3 ∷ 0 ∷ [])
    × ((with_facts facts no_rows).bytes ≡ 0x0a ∷ 0xff ∷ 5 ∷ 1 ∷ 2 ∷ 3 ∷ [])
unfolding with_fact
bytes = (refl, refl, refl)
