-- How a chain is stored.
use Rattle.std.specs.Prelude.{◌≡◌, List, [], ◌∷◌, length, Result, Ok, Err, Option, None, Some}
use Rattle.chain.specs.declared.store.Found.{Found}
use Rattle.tx.specs.Parts.{Output}
use Rattle.tx.specs.Fields.{Transaction}
use Rattle.chain.specs.declared.errors.ChainError.{ChainError}
use Rattle.chain.specs.declared.errors.BlockError.{BlockError}
use Rattle.chain.specs.Blocks.{Contents, Standing, Coin}
use Rattle.chain.specs.Refusals.{UnlessMemory}
use Rattle.chain.specs.Checks.{transaction_refusal}
use Rattle.chain.specs.Connecting.{with_transaction, added, unless_refusal, passing_added, refusals_of}

-- an output that was found
abbrev pub found_coin : Found → Coin
found_coin f = record { output = f.output.now; height = f.height; spent = f.spent }

-- the blocks without the newest
abbrev pub taken_off : List Contents → List Contents
taken_off [] = []
taken_off (b ∷ older) = older

-- the newest block holds no grant, so it may be taken off
abbrev pub MayTakeOff : List Contents → Type 0
MayTakeOff [] = ⊥
MayTakeOff (b ∷ older) = b.granted ≡ []

-- what was granted in the newest block
abbrev pub newest_granted : List Contents → List Output
newest_granted [] = []
newest_granted (b ∷ older) = b.granted

-- only the transactions of the newest block differ
pub record ChangesNewest (old new : Standing) : Type 0 where
  pub older : taken_off new.blocks ≡ taken_off old.blocks
  pub granted : newest_granted new.blocks ≡ newest_granted old.blocks
  pub count : length new.blocks ≡ length old.blocks
  pub greatest : new.greatest ≡ old.greatest

-- a transaction was added to the newest block, or refused
abbrev pub AddsOne : {A : Type 0} → Standing → Transaction → Result A ChainError → Standing → Type 0
AddsOne old t (Ok x) new = (transaction_refusal old.blocks t ≡ None) × (new ≡ record old { blocks = with_transaction old.blocks t })
AddsOne old t (Err e) new = (new ≡ old) × UnlessMemory e (transaction_refusal old.blocks t ≡ Some e)

-- transactions were added to the newest block, up to the first that is refused
abbrev pub AddsAll : {A : Type 0} → Standing → List Transaction → Result A BlockError → Standing → Type 0
AddsAll old txs (Ok x) new = ChangesNewest old new × (added 0 old.blocks txs ≡ Ok new.blocks)
AddsAll old txs (Err e) new = ChangesNewest old new × UnlessMemory e.refusal (added 0 old.blocks txs ≡ Err e)

-- a transaction was offered to the newest block: it was added where nothing refuses it
abbrev pub Offers : Standing → Transaction → Option ChainError → Standing → Type 0
Offers old t refusal new = (refusal ≡ transaction_refusal old.blocks t) × (new ≡ record old { blocks = unless_refusal refusal old.blocks t })

-- those of the transactions were added to the newest block that pass after those before them
abbrev pub AddsPassing : Standing → List Transaction → List (Option ChainError) → Standing → Type 0
AddsPassing old txs refusals new = (new.blocks ≡ passing_added old.blocks txs) × (refusals ≡ refusals_of old.blocks txs)
