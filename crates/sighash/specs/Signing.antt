-- The digest that a signature of a version 0 witness program is over (BIP 143, hash type ALL).
use Rattle.std.specs.Prelude.{ℕ, List, ◌++◌, Option, slice_get, option_map}
use Rattle.std.specs.List.{flat_map}
use Rattle.digest.specs.Hash.{sha256d}
use Rattle.tx.specs.declared.input.TxIn.{TxIn}
use Rattle.tx.specs.Parts.{Output}
use Rattle.tx.specs.Fields.{Transaction}
use Rattle.tx.specs.Spelling.{number, bytes_with_length, outpoint, output}

unfoldable pub all_outpoints : List TxIn → List ℕ
all_outpoints inputs = flat_map (λ i. outpoint i.outpoint) inputs

unfoldable pub all_sequences : List TxIn → List ℕ
all_sequences inputs = flat_map (λ i. number 4 i.sequence) inputs

unfoldable pub all_outputs : List Output → List ℕ
all_outputs outputs = flat_map output outputs

-- what is hashed for one of the inputs, with its script code and the value that it spends
unfoldable pub signed_list : Transaction → TxIn → List ℕ → ℕ → List ℕ
signed_list t input code value =
    number 4 t.version ++ sha256d (all_outpoints t.inputs) ++ sha256d (all_sequences t.inputs)
    ++ outpoint input.outpoint ++ bytes_with_length code
    ++ number 8 value ++ number 4 input.sequence
    ++ sha256d (all_outputs t.outputs) ++ number 4 t.lock_time ++ number 4 1

-- the digest for the input at this index, where there is one
abbrev pub sighash : Transaction → ℕ → List ℕ → ℕ → Option (List ℕ)
sighash t n code v = option_map (λ i. sha256d (signed_list t i code v)) (slice_get t.inputs n)
