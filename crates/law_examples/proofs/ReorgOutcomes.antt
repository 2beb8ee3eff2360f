-- How an event that replaces blocks is answered, at each bound: as many as some chain can replace, and one more; as many of their transactions as there are, and one more.
use Rattle.std.proofs.Common.{◌≡◌, ℕ, Bool, true, false, List, [], ◌∷◌, length, take, Option, Some, None, refl, sym, arith}
use Rattle.std.specs.Prelude.{if◌then◌else◌, nat_lt}
use Rattle.std.proofs.lemmas.Bool.{true≢false}
use Rattle.std.proofs.lemmas.Bool.Decides.{nat_tests}
use Rattle.std.proofs.lemmas.Option.{none-some}
use Rattle.tx.specs.Fields.{Transaction}
use Rattle.chain.specs.Blocks.{Contents as Block, Standing, transactions_of}
use Rattle.chain.specs.Connecting.{is_too_deep}
use Rattle.mempool.specs.declared.errors.ReorgError.TheVariants as reorgs
use Rattle.scenario.specs.declared.events.Event.TheVariants as events
use Rattle.desk.specs.Histories.{History}
use Rattle.world.specs.declared.errors.EventError.{EventError}
use Rattle.world.specs.declared.errors.EventError.TheVariants.{NoSuchChannel, NoSuchTx, TooDeep}
use Rattle.running.specs.Outcomes.{refusal_as, IsReorgOutcome, IsMiningOutcome, IsOutcomeOf, IsOutcome}
use Rattle.law_examples.proofs.Samples.{empty, argument_of}

-- which blocks an event replaces
abbrev Reorg : Type 0
Reorg = argument_of IsReorgOutcome

abbrev replaces : (depth forgotten : ℕ) → Reorg
replaces depth forgotten = record { depth = depth; forgotten = forgotten }

-- ---- some chain does so

module _ (t u v : Transaction) (a b : History) where
  abbrev holds : List Transaction → Block
  holds txs = record { transactions = txs; granted = [] }

  -- five blocks: two transactions in the newest one, and a third in the one before it
  chain : Standing
  chain = record { blocks = holds (t ∷ u ∷ []) ∷ holds (v ∷ []) ∷ empty ∷ empty ∷ empty ∷ []; greatest = 4 }

  -- yes: IsReorgOutcome
  all_forgotten : IsReorgOutcome (replaces 2 3) None
  unfolding chain
  all_forgotten = (chain, refl)

  -- yes: IsReorgOutcome
  one_more_forgotten : IsReorgOutcome (replaces 2 4) (Some NoSuchTx)
  unfolding chain
  one_more_forgotten = (chain, refl)

  -- all but the first block, and that one too
  -- yes: IsReorgOutcome
  all_replaced : IsReorgOutcome (replaces 4 3) None
  unfolding chain
  all_replaced = (chain, refl)

  -- yes: IsReorgOutcome
  one_more_replaced : IsReorgOutcome (replaces 5 3) (Some TooDeep)
  unfolding chain
  one_more_replaced = (chain, refl)

  -- the same of the event, which asks neither book
  -- yes: IsMiningOutcome, IsOutcomeOf, IsOutcome
  told_of_the_event : IsMiningOutcome (Some (replaces 2 4)) (Some NoSuchTx) × IsOutcomeOf None (Some (replaces 2 4)) a b (Some NoSuchTx) × IsOutcome (events.Reorg 2 4) a b (Some NoSuchTx)
  told_of_the_event = (one_more_forgotten, one_more_forgotten, one_more_forgotten)

-- ---- no chain does so

-- a refusal as it computes, of what is known of the chain
abbrev told : (is_deep lacks : Bool) → Option EventError
told is_deep lacks = refusal_as (if is_deep then Some reorgs.TooDeep else (if lacks then Some reorgs.NoSuchTx else None))

lacks_none : (is_deep lacks : Bool) → lacks ≡ false → told is_deep lacks ≡ Some NoSuchTx → ⊥
lacks_none true lacks n e = absurd cc
lacks_none false true n e = true≢false n
lacks_none false false n e = none-some NoSuchTx e

none_below : (n : ℕ) → nat_lt n 0 ≡ false
none_below n = grind (arith, nat_tests)

no_other : (is_deep lacks : Bool) → told is_deep lacks ≡ Some NoSuchChannel → ⊥
no_other true lacks e = absurd cc
no_other false true e = absurd cc
no_other false false e = none-some NoSuchChannel e

-- where none is forgotten, none is missing
-- no: IsReorgOutcome
none_forgotten : IsReorgOutcome (replaces 3 0) (Some NoSuchTx) → ⊥
none_forgotten (c, e) = lacks_none (is_too_deep c 3) (nat_lt (length (transactions_of (take 3 c.blocks))) 0) (none_below _) (sym e)

-- no: IsReorgOutcome
told_as_another : IsReorgOutcome (replaces 3 2) (Some NoSuchChannel) → ⊥
told_as_another (c, e) = no_other (is_too_deep c 3) (nat_lt (length (transactions_of (take 3 c.blocks))) 2) (sym e)

-- that no block is to be replaced is told first
-- no: IsReorgOutcome
told_too_late : IsReorgOutcome (replaces 0 5) (Some NoSuchTx) → ⊥
told_too_late (c, e) = absurd cc

-- no: IsMiningOutcome, IsOutcomeOf, IsOutcome
none_missing : (a b : History) → IsMiningOutcome (Some (replaces 3 0)) (Some NoSuchTx) × IsOutcomeOf None (Some (replaces 3 0)) a b (Some NoSuchTx) × IsOutcome (events.Reorg 3 0) a b (Some NoSuchTx) → ⊥
none_missing a b told = none_forgotten told.2
