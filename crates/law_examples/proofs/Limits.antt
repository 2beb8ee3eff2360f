-- The limits of a transaction's parts (BIP 141 and 144, and this repository's own), each at its greatest value and one above it.
use Rattle.std.proofs.Common.{◌≡◌, ℕ, ◌-◌, ◌^◌, ◌≤◌, List, [], ◌∷◌, length, replicate, arith, lit≤}
use Rattle.std.proofs.lemmas.List.Elements.{All-nil, All-cons, All-head}
use Rattle.script.specs.Clean.{AreShort}
use Rattle.tx.specs.declared.input.TxIn.{TxIn}
use Rattle.tx.specs.Parts.{IsWithin, IsBounded, IsWitness, Output, IsOutput}
use Rattle.tx.specs.Fields.{Transaction, IsInput, AreInputs, AreOutputs, KeepsLimits}

-- yes: IsOp, by crates/script/proofs/SpellingExamples.antt: longest_push
-- no: IsOp, by crates/script/proofs/SpellingExamples.antt: no_longer_push

-- ---- lists

-- yes: IsWithin
within : IsWithin 2 (λ n. n ≤ 5) (5 ∷ 3 ∷ [])
within = record { count = omega arith; each = (omega arith, (omega arith, tt)) }

-- no: IsWithin
many : IsWithin 1 (λ n. n ≤ 5) (5 ∷ 3 ∷ []) → ⊥
many w = let l = w.count in omega (arith, l)

-- no: IsWithin
second_above : IsWithin 2 (λ n. n ≤ 5) (5 ∷ 6 ∷ []) → ⊥
second_above w = let l = w.each.1.0 in omega (arith, l)

-- yes: IsBounded
bounded : IsBounded (replicate 10000 7)
bounded = lit≤ tt

-- no: IsBounded
unbounded : (bytes : List ℕ) → length bytes ≡ 10001 → IsBounded bytes → ⊥
unbounded bytes e l = omega (arith, e, l)

-- yes: IsWitness
witness : IsWitness ([] ∷ (1 ∷ []) ∷ [])
witness = record { count = omega arith; each = (lit≤ tt, (lit≤ tt, tt)) }

-- no: IsWitness
many_items : (items : List (List ℕ)) → length items ≡ 1002 → IsWitness items → ⊥
many_items items e w = let l = w.count in omega (arith, e, l)

-- no: IsWitness
long_item : (item : List ℕ) → length item ≡ 10001 → IsWitness ([] ∷ item ∷ []) → ⊥
long_item item e w = let l = w.each.1.0 in omega (arith, e, l)

-- an item that a script runs on has at most 520 bytes
-- yes: AreShort
short : AreShort (replicate 520 1 ∷ [])
short = All-cons (λ item. length item ≤ 520) (replicate 520 1) [] (lit≤ tt) (All-nil (λ item. length item ≤ 520))

-- no: AreShort
not_short : (item : List ℕ) → length item ≡ 521 → AreShort (item ∷ []) → ⊥
not_short item e a = let l = All-head (λ (x : List ℕ). length x ≤ 520) item [] a in omega (arith, e, l)

-- ---- outputs

abbrev paying : ℕ → List ℕ → Output
paying value script = record { value = value; script = script }

-- yes: IsOutput
output : IsOutput (paying 2100000000000000 [])
output = record { value = omega arith; script = omega arith }

-- no: IsOutput
no_output : (script : List ℕ) → IsOutput (paying 2100000000000001 script) → ⊥
no_output script o = let l = o.value in omega (arith, l)

-- no: IsOutput
long_script : (script : List ℕ) → length script ≡ 10001 → IsOutput (paying 5 script) → ⊥
long_script script e o = let l = o.script in omega (arith, e, l)

-- yes: AreOutputs
outputs : AreOutputs (paying 5 [] ∷ paying 2100000000000000 [] ∷ [])
outputs = record { count = omega arith; each = (record { value = omega arith; script = omega arith }, (record { value = omega arith; script = omega arith }, tt)) }

-- no: AreOutputs
many_outputs : (os : List Output) → length os ≡ 4001 → AreOutputs os → ⊥
many_outputs os e a = let l = a.count in omega (arith, e, l)

-- ---- inputs

module _ (txid : List ℕ) (size : length txid ≡ 32) where
  abbrev spending : ℕ → ℕ → TxIn
  spending index sequence = record { outpoint = record { txid = txid; index = index }; sequence = sequence; witness = [] }

  -- yes: IsInput
  input : IsInput (spending (2 ^ 32 - 1) (2 ^ 32 - 1))
  input = record { txid = size; index = omega arith; sequence = omega arith; witness = record { count = omega arith; each = tt } }

  -- no: IsInput
  far_index : IsInput (spending (2 ^ 32) 0) → ⊥
  far_index i = let l = i.index in omega (arith, l)

  -- no: IsInput
  great_sequence : IsInput (spending 0 (2 ^ 32)) → ⊥
  great_sequence i = let l = i.sequence in omega (arith, l)

  -- yes: AreInputs
  inputs : AreInputs (spending 1 2 ∷ [])
  inputs = record { count = omega arith; each = (record { txid = size; index = omega arith; sequence = omega arith; witness = record { count = omega arith; each = tt } }, tt) }

  -- no: AreInputs
  many_inputs : (is : List TxIn) → length is ≡ 4001 → AreInputs is → ⊥
  many_inputs is e a = let l = a.count in omega (arith, e, l)

  abbrev with_parts : ℕ → List TxIn → ℕ → Transaction
  with_parts version is lock_time = record { version = version; inputs = is; outputs = []; lock_time = lock_time }

  -- yes: KeepsLimits
  keeps : KeepsLimits (with_parts (2 ^ 32 - 1) (spending 1 2 ∷ []) (2 ^ 32 - 1))
  keeps = record { version = omega arith; some_input = omega arith; inputs = inputs; outputs = record { count = omega arith; each = tt }; lock_time = omega arith }

  -- no: KeepsLimits
  great_version : KeepsLimits (with_parts (2 ^ 32) (spending 1 2 ∷ []) 0) → ⊥
  great_version k = let l = k.version in omega (arith, l)

  -- no: KeepsLimits
  great_lock_time : KeepsLimits (with_parts 2 (spending 1 2 ∷ []) (2 ^ 32)) → ⊥
  great_lock_time k = let l = k.lock_time in omega (arith, l)

  -- no: KeepsLimits
  no_input : KeepsLimits (with_parts 2 [] 0) → ⊥
  no_input k = let l = k.some_input in omega (arith, l)

-- no: IsInput
short_id : (txid : List ℕ) → length txid ≡ 31 → IsInput (record { outpoint = record { txid = txid; index = 0 }; sequence = 0; witness = [] }) → ⊥
short_id txid e i = let l = i.txid in omega (arith, e, l)
