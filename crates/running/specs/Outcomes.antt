-- What becomes of the events of the chain.
use Rattle.std.specs.Prelude.{◌≡◌, ℕ, List, [], ◌∷◌, Option, Some, None, Result, option_map}
use Rattle.tx.specs.Fields.{Transaction}
use Rattle.chain.specs.Blocks.{Standing}
use Rattle.mempool.specs.declared.errors.ReorgError.{ReorgError}
use Rattle.mempool.specs.Reorganising.{reorg_refusal}
use Rattle.terms.specs.declared.sides.Side.{Side}
use Rattle.terms.specs.declared.sides.Side.TheVariants as sides
use Rattle.scenario.specs.declared.events.Event.{Event}
use Rattle.scenario.specs.declared.events.Event.TheVariants as events
use Rattle.desk.specs.Histories.{History, GoesOn}
use Rattle.desk.specs.Seats.{last_in}
use Rattle.world.specs.declared.errors.EventError.{EventError}
use Rattle.world.specs.Publishing.{refusal_by}
use Rattle.world.specs.Refusing.{by_reorg}
use Rattle.running.specs.declared.chain_thread.Broadcast.{Broadcast}
use Rattle.running.specs.declared.chain_thread.Reorg.{Reorg}
use Rattle.running.specs.declared.chain_thread.ChainThread.{ChainThread}
use Rattle.running.specs.Broadcasts.{broadcast_in, IsBroadcast}

-- which blocks an event replaces, if it does
abbrev pub reorg_in : Event → Option Reorg
reorg_in (events.Reorg d f) = Some (record { depth = d; forgotten = f })
reorg_in event = None

-- ---- one event

-- the refusal of a chain, as that of an event
abbrev pub refusal_as : Option ReorgError → Option EventError
refusal_as first = option_map by_reorg first

-- a side with this history is asked for a transaction, and why it does not broadcast one, if so
abbrev pub IsBroadcastOutcome : History → Broadcast → Option EventError → Type 0
IsBroadcastOutcome history b outcome = (answer : Result Transaction EventError) × IsBroadcast history b answer × (outcome ≡ refusal_by answer)

-- why some chain does not replace its newest blocks, if so: nothing is known of the chain that threads share
abbrev pub IsReorgOutcome : Reorg → Option EventError → Type 0
IsReorgOutcome r outcome = (chain : Standing) × (outcome ≡ refusal_as (reorg_refusal chain r.depth r.forgotten))

-- the same of an event that broadcasts nothing; if it replaces no blocks it is not refused
abbrev pub IsMiningOutcome : Option Reorg → Option EventError → Type 0
IsMiningOutcome (Some r) outcome = IsReorgOutcome r outcome
IsMiningOutcome None outcome = outcome ≡ None

-- a side's history, of those of A and of B
abbrev pub history_of : Side → History → History → History
history_of sides.A a b = a
history_of sides.B a b = b

abbrev pub IsOutcomeOf : Option Broadcast → Option Reorg → (a b : History) → Option EventError → Type 0
IsOutcomeOf (Some t) reorg a b outcome = IsBroadcastOutcome (history_of t.side a b) t outcome
IsOutcomeOf None reorg a b outcome = IsMiningOutcome reorg outcome

-- why an event is refused as one of the chain, if it is, where the two books have these histories
abbrev pub IsOutcome : Event → (a b : History) → Option EventError → Type 0
IsOutcome event a b outcome = IsOutcomeOf (broadcast_in event) (reorg_in event) a b outcome

-- ---- all events

-- the events in order, each where the two books have gone on from where they were at the one before it, from these histories to those
pub data PlaysChain : List Event → History → History → List (Option EventError) → History → History → Type 0 where
  none_left : (a b : History) → PlaysChain [] a b [] a b
  played : (e : Event) (es : List Event) (a b between_a between_b after_a after_b : History) (outcome : Option EventError) (outcomes : List (Option EventError)) → GoesOn a between_a → GoesOn b between_b
      → IsOutcome e between_a between_b outcome → PlaysChain es between_a between_b outcomes after_a after_b → PlaysChain (e ∷ es) a b (outcome ∷ outcomes) after_a after_b

-- the thread that plays them has last seen these histories
pub record HasSeen (a b : History) (p : ChainThread) : Type 0 where
  pub a_last : last_in p.a ≡ a
  pub b_last : last_in p.b ≡ b

-- the events from these histories on, to some with which the two books that are left begin
pub record IsChainPlayed (a b : History) (events : List Event) (outcomes : List (Option EventError)) (left_a left_b : History) : Type 0 where
  pub after_a : History
  pub after_b : History
  pub plays : PlaysChain events a b outcomes after_a after_b
  pub since_a : GoesOn after_a left_a
  pub since_b : GoesOn after_b left_b
