-- What a block does not take, and why.
use Rattle.std.specs.Prelude.{◌≡◌, max, List, [], ◌∷◌, Option, Some, None}
use Rattle.std.specs.List.{cons_option}
use Rattle.tx.specs.Fields.{Transaction}
use Rattle.chain.specs.declared.errors.ChainError.{ChainError}
use Rattle.chain.specs.declared.refused.Refused.{Refused}
use Rattle.chain.specs.Blocks.{Contents, Standing, empty_block, height_of}
use Rattle.chain.specs.Checks.{transaction_refusal}
use Rattle.chain.specs.Connecting.{unless_refusal, passing_added}

-- a transaction before others, if it is refused
abbrev pub if_refused : Option ChainError → Transaction → List Refused → List Refused
if_refused None t rest = rest
if_refused (Some refusal) t rest = record { confirmed = t; refusal = refusal } ∷ rest

-- those of the transactions, one by one, that do not pass after those added before them
abbrev pub refused_of : List Contents → List Transaction → List Refused
refused_of blocks [] = []
refused_of blocks (t ∷ ts) = if_refused (transaction_refusal blocks t) t (refused_of (unless_refusal (transaction_refusal blocks t) blocks t) ts)

-- a transaction was offered to the newest block, and came back where it is refused
abbrev pub OffersBack : Standing → Transaction → Option Refused → Standing → Type 0
OffersBack old t refused new =
    (cons_option refused [] ≡ if_refused (transaction_refusal old.blocks t) t []) × (new ≡ record old { blocks = unless_refusal (transaction_refusal old.blocks t) old.blocks t })

-- those of the transactions were added to the newest block that pass after those before them
abbrev pub AddsWaiting : Standing → List Transaction → List Refused → Standing → Type 0
AddsWaiting old txs refused new = (new.blocks ≡ passing_added old.blocks txs) × (refused ≡ refused_of old.blocks txs)

-- what a call of `connect_waiting` did, where it had the memory: a new block of those that pass, and the others with their refusals
abbrev pub ConnectsWaiting : Standing → List Transaction → List Refused → Standing → Type 0
ConnectsWaiting old txs refused new =
    (new.blocks ≡ passing_added (empty_block ∷ old.blocks) txs) × (refused ≡ refused_of (empty_block ∷ old.blocks) txs) × (new.greatest ≡ max old.greatest (height_of new.blocks))
