-- The fields of a transaction, and the limits that they keep.
use Rattle.std.specs.Prelude.{◌≡◌, ℕ, zero, suc, ◌≤◌, ◌<◌, ◌^◌, ◌==◌, ◌&&◌, Bool, not, List, [], ◌∷◌, length, map, sum_by}
use Rattle.std.specs.List.{list_any}
use Rattle.std.specs.Str.{bytes_eq}
use Rattle.tx.specs.declared.input.OutPoint.{OutPoint}
use Rattle.tx.specs.declared.input.TxIn.{TxIn}
use Rattle.tx.specs.declared.limits.TheConstants.{MAX_INPUTS, MAX_OUTPUTS}
use Rattle.tx.specs.Parts.{IsWithin, IsWitness, Output, IsOutput}

-- two outpoints are the same
abbrev pub same_outpoint : OutPoint → OutPoint → Bool
same_outpoint o p = bytes_eq o.txid p.txid && o.index == p.index

pub record IsInput (i : TxIn) : Type 0 where
  pub txid : length i.outpoint.txid ≡ 32
  pub index : i.outpoint.index < 2 ^ 32
  pub sequence : i.sequence < 2 ^ 32
  pub witness : IsWitness i.witness

pub record Transaction : Type 0 where
  pub version : ℕ
  pub inputs : List TxIn
  pub outputs : List Output
  pub lock_time : ℕ

abbrev pub AreInputs : List TxIn → Type 0
AreInputs inputs = IsWithin MAX_INPUTS IsInput inputs

abbrev pub AreOutputs : List Output → Type 0
AreOutputs outputs = IsWithin MAX_OUTPUTS IsOutput outputs

-- a transaction of version 2
abbrev pub version_two : List TxIn → List Output → ℕ → Transaction
version_two inputs outputs lock_time =
    record { version = 2; inputs = inputs; outputs = outputs; lock_time = lock_time }

-- what every transaction keeps, whether or not it is signed
pub record KeepsLimits (t : Transaction) : Type 0 where
  pub version : t.version < 2 ^ 32
  pub some_input : 0 < length t.inputs
  pub inputs : AreInputs t.inputs
  pub outputs : AreOutputs t.outputs
  pub lock_time : t.lock_time < 2 ^ 32

-- whether a witness has an item
abbrev pub has_witness : List TxIn → Bool
has_witness inputs = list_any (λ i. not (length i.witness == 0)) inputs

-- the input with this witness
abbrev pub signed_input : TxIn → List (List ℕ) → TxIn
signed_input i items = record i { witness = items }

-- the inputs, with this witness at an index
abbrev pub inputs_with_witness : List TxIn → ℕ → List (List ℕ) → List TxIn
inputs_with_witness [] index items = []
inputs_with_witness (i ∷ is) zero items = signed_input i items ∷ is
inputs_with_witness (i ∷ is) (suc index) items = i ∷ inputs_with_witness is index items

-- the inputs with no witness item
abbrev pub unsigned_inputs : List TxIn → List TxIn
unsigned_inputs inputs = map (λ i. signed_input i []) inputs

-- the transaction, with this witness for the input at an index
abbrev pub transaction_with_witness : Transaction → ℕ → List (List ℕ) → Transaction
transaction_with_witness t index items = record t { inputs = inputs_with_witness t.inputs index items }

-- the transaction with no witness item
abbrev pub unsigned_transaction : Transaction → Transaction
unsigned_transaction t = record t { inputs = unsigned_inputs t.inputs }

-- the sum of the values of outputs in satoshis
abbrev pub total_value : List Output → ℕ
total_value outputs = sum_by (λ o. o.value) outputs
