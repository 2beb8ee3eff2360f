-- The parts of a transaction and their limits, without where they lie in memory.
use Rattle.std.specs.Prelude.{ℕ, ◌≤◌, List, length}
use Rattle.std.specs.List.{AllByRecursion}
use Rattle.tx.specs.declared.limits.TheConstants.{MAX_VALUE, MAX_ITEMS, MAX_BYTES}

-- at most `limit` elements, each of which keeps the limits of its kind
pub record IsWithin {A : Type 0} (limit : ℕ) (Keeps : A → Type 0) (xs : List A) : Type 0 where
  pub count : length xs ≤ limit
  pub each : AllByRecursion Keeps xs

-- the length of a witness item, or of the script of an output
abbrev pub IsBounded : List ℕ → Type 0
IsBounded bytes = length bytes ≤ MAX_BYTES

-- the witness of an input (BIP 141)
abbrev pub IsWitness : List (List ℕ) → Type 0
IsWitness items = IsWithin MAX_ITEMS IsBounded items

-- an output: its value in satoshis, and its script
pub record Output : Type 0 where
  pub value : ℕ
  pub script : List ℕ

pub record IsOutput (o : Output) : Type 0 where
  pub value : o.value ≤ MAX_VALUE
  pub script : IsBounded o.script
