-- What a transaction is checked for, and the first refusal.
use Rattle.std.specs.Prelude.{ℕ, Bool, true, false, ◌||◌, not, nat_le, List, [], ◌∷◌, Option, Some, None}
use Rattle.std.specs.List.{list_any}
use Rattle.std.specs.Option.{option_map_or}
use Rattle.script.specs.Run.{Outcome, Clean, Stopped}
use Rattle.tx.specs.declared.input.TxIn.{TxIn}
use Rattle.tx.specs.Fields.{Transaction, same_outpoint}
use Rattle.tx.specs.Spelling.{transaction_id}
use Rattle.sighash.specs.Programs.{run_of}
use Rattle.chain.specs.declared.errors.ChainError.{ChainError}
use Rattle.chain.specs.declared.errors.ChainError.TheVariants.{Spent, Unknown, NotFinal, TooYoung, Script, BadProgram, OutputsExceed, Twice}
use Rattle.chain.specs.Blocks.{Contents, Coin, coin_at, height_of, has_id, paid_in, paid_out}
use Rattle.chain.specs.Locks.{is_final, is_old_enough}

-- the refusal if the check fails, else what follows
abbrev pub required : Bool → ChainError → Option ChainError → Option ChainError
required true refusal next = next
required false refusal next = Some refusal

-- the first refusal if there is one, else the next
abbrev pub first_of : Option ChainError → Option ChainError → Option ChainError
first_of (Some refusal) next = Some refusal
first_of None next = next

-- the refusal that the outcome of a run gives
abbrev pub run_refusal : Option Outcome → Option ChainError
run_refusal (Some (Clean counted height)) = None
run_refusal (Some (Stopped at cause)) = Some (Script cause at)
run_refusal None = Some BadProgram

-- the refusal of an input of a transaction in a block of this height, where this is the output that
-- it spends
abbrev pub coin_refusal : ℕ → Transaction → TxIn → Option Coin → Option ChainError
coin_refusal height t input None = Some Unknown
coin_refusal height t input (Some coin) = required (not coin.spent) Spent
    (required (is_final height t.lock_time t.inputs) NotFinal
    (required (is_old_enough height t.version input.sequence coin.height) TooYoung
    (run_refusal (run_of t input coin.output))))

abbrev pub input_refusal : List Contents → ℕ → Transaction → TxIn → Option ChainError
input_refusal blocks height t input = coin_refusal height t input (coin_at blocks input.outpoint)

-- the refusal of the input at an index; an index with no input is Unknown
abbrev pub indexed_refusal : List Contents → ℕ → Transaction → Option TxIn → Option ChainError
indexed_refusal blocks height t o = option_map_or (input_refusal blocks height t) o (Some Unknown)

-- the first refusal of inputs in their order
abbrev pub inputs_refusal : List Contents → ℕ → Transaction → List TxIn → Option ChainError
inputs_refusal blocks height t [] = None
inputs_refusal blocks height t (input ∷ inputs) = first_of (input_refusal blocks height t input) (inputs_refusal blocks height t inputs)

-- two of the inputs spend the same outpoint
abbrev pub names_twice : List TxIn → Bool
names_twice [] = false
names_twice (input ∷ inputs) = list_any (λ i. same_outpoint i.outpoint input.outpoint) inputs || names_twice inputs

-- the first refusal of a transaction that is to be added to the newest block
unfoldable pub transaction_refusal : List Contents → Transaction → Option ChainError
transaction_refusal blocks t =
    required (not (names_twice t.inputs || has_id blocks (transaction_id t))) Twice
    (first_of (inputs_refusal blocks (height_of blocks) t t.inputs)
    (required (nat_le (paid_out t.outputs) (paid_in blocks t.inputs)) OutputsExceed None))
