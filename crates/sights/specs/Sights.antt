-- What blocks show of closes: the transactions that take funding outputs, and those that take what these make. By names of outpoints alone.
use Rattle.std.specs.Prelude.{ℕ, Bool, true, false, if◌then◌else◌, nat_lt, List, [], ◌∷◌, length, Option, Some, None, option_map}
use Rattle.std.specs.List.{list_any}
use Rattle.std.specs.Option.{option_or, option_and_then}
use Rattle.std.specs.Str.{bytes_eq}
use Rattle.tx.specs.declared.input.OutPoint.{OutPoint}
use Rattle.tx.specs.declared.input.TxIn.{TxIn}
use Rattle.tx.specs.Fields.{Transaction, same_outpoint}
use Rattle.tx.specs.Spelling.{transaction_id}
use Rattle.chain.specs.Blocks.{Contents as Block, names}
use Rattle.sights.specs.declared.sighted.Stage.{Stage}
use Rattle.sights.specs.declared.sighted.Stage.TheVariants.{Close, SecondStage, Spend}
use Rattle.sights.specs.declared.sighted.Sighted.{Sighted}

-- ---- what was read

-- the transactions that were read are listed newest first, as blocks are; this is the oldest with an id
abbrev pub sighted_as : List ℕ → List Sighted → Option Sighted
sighted_as id [] = None
sighted_as id (s ∷ ss) = option_or (sighted_as id ss) (if bytes_eq (transaction_id s.tx) id then Some s else None)

abbrev pub stage_at : List ℕ → List Sighted → Option Stage
stage_at id ss = option_map (λ s. s.stage) (sighted_as id ss)

-- the outpoint is a funding output
abbrev pub is_funding : List OutPoint → OutPoint → Bool
is_funding fundings o = list_any (λ f. same_outpoint f o) fundings

-- what takes an output of a close by its one input is of the second stage, and what takes an output of that is a spend, of which nothing is followed
abbrev pub stage_after : Option Stage → Option Stage
stage_after None = None
stage_after (Some Close) = Some SecondStage
stage_after (Some SecondStage) = Some Spend
stage_after (Some Spend) = None

-- the stage of a transaction by an input
abbrev pub stage_by : List OutPoint → List Sighted → TxIn → Option Stage
stage_by fundings ss i = if is_funding fundings i.outpoint then Some Close else stage_after (stage_at i.outpoint.txid ss)

abbrev pub is_close : Option Stage → Bool
is_close (Some Close) = true
is_close stage = false

abbrev pub is_there : Option Stage → Bool
is_there None = false
is_there (Some stage) = true

-- and by what several take, or none
abbrev pub stage_of_several : Bool → Bool → Option Stage
stage_of_several closes follows = if closes then Some Close else if follows then Some Spend else None

-- and by its inputs. Of several none makes a second stage
abbrev pub stage_by_all : List OutPoint → List Sighted → List TxIn → Option Stage
stage_by_all fundings ss (i ∷ []) = stage_by fundings ss i
stage_by_all fundings ss inputs = stage_of_several (list_any (λ i. is_close (stage_by fundings ss i)) inputs) (list_any (λ i. is_there (stage_by fundings ss i)) inputs)

-- one more transaction of a block of a height is read
abbrev pub read_as : Option Stage → ℕ → Transaction → List Sighted → List Sighted
read_as None height t ss = ss
read_as (Some stage) height t ss = record { height = height; stage = stage; tx = t } ∷ ss

abbrev pub read_one : List OutPoint → ℕ → Transaction → List Sighted → List Sighted
read_one fundings height t ss = read_as (stage_by_all fundings ss t.inputs) height t ss

-- and all of a block, which lists its transactions newest first
abbrev pub read_block : List OutPoint → ℕ → List Transaction → List Sighted → List Sighted
read_block fundings height [] ss = ss
read_block fundings height (t ∷ ts) ss = read_one fundings height t (read_block fundings height ts ss)

-- ALL THAT A CHAIN SHOWS of the closes of channels with these funding outputs
abbrev pub sights_in : List OutPoint → List Block → List Sighted
sights_in fundings [] = []
sights_in fundings (b ∷ older) = read_block fundings (length older) b.transactions (sights_in fundings older)

-- without the newest
abbrev pub older_of : List Sighted → List Sighted
older_of [] = []
older_of (s ∷ ss) = ss

-- the newest is of a block above a height
abbrev pub is_above : ℕ → List Sighted → Bool
is_above height [] = false
is_above height (s ∷ ss) = nat_lt height s.height

-- what is left of it once the blocks above a height were taken off
abbrev pub up_to : ℕ → List Sighted → List Sighted
up_to height [] = []
up_to height (s ∷ ss) = if nat_lt height s.height then up_to height ss else s ∷ ss

-- the oldest of them, as many as that
abbrev pub oldest : ℕ → List Sighted → List Sighted
oldest count [] = []
oldest count (s ∷ ss) = if nat_lt count (length (s ∷ ss)) then oldest count ss else s ∷ ss

-- ---- what it says of an output

-- the height of the block that made it
abbrev pub made_by : OutPoint → Sighted → Option ℕ
made_by o s = if nat_lt o.index (length s.tx.outputs) then Some s.height else None

abbrev pub made_at : OutPoint → List Sighted → Option ℕ
made_at o ss = option_and_then (made_by o) (sighted_as o.txid ss)

-- one of the inputs names it
abbrev pub among : OutPoint → List TxIn → Bool
among o inputs = list_any (λ i. same_outpoint i.outpoint o) inputs

-- whether it was taken
abbrev pub was_taken : OutPoint → List Sighted → Bool
was_taken o ss = list_any (λ s. names o s.tx) ss

-- ---- a reader of blocks

-- the funding outputs of the channels, and what was read
pub record Reading : Type 0 where
  pub fundings : List OutPoint
  pub sighted : List Sighted
