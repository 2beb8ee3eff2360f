-- One event of the world, case by case; and a run of events.
use Rattle.std.specs.Prelude.{◌≡◌, ℕ, ◌-◌, List, [], ◌∷◌, ◌++◌, option_map, Option, Some, None, Result, Ok, Err, slice_get}
use Rattle.tx.specs.Fields.{Transaction}
use Rattle.terms.specs.declared.sides.Side.{Side}
use Rattle.terms.specs.Sides.{other}
use Rattle.scenario.specs.declared.events.Event.{Event}
use Rattle.scenario.specs.declared.events.Event.TheVariants as events
use Rattle.updates.specs.declared.changes.OwnUpdate.{OwnUpdate}
use Rattle.chain.specs.Blocks.{height_of}
use Rattle.mempool.specs.Mining.{Mined, mined_by, reorganised}
use Rattle.mempool.specs.Reorganising.{reorg_refusal}
use Rattle.book.specs.declared.calls.Call.{Call}
use Rattle.book.specs.declared.calls.Call.TheVariants as calls
use Rattle.book.specs.declared.calls.Step.TheVariants.{Own}
use Rattle.world.specs.declared.errors.EventError.{EventError}
use Rattle.world.specs.declared.errors.EventError.TheVariants.{NoMemory}
use Rattle.world.specs.declared.outcomes.Outcome.{Outcome}
use Rattle.world.specs.declared.outcomes.Outcome.TheVariants.{Done, Looked, Mined as MinedBlocks, Refused}
use Rattle.world.specs.Worlds.{World, Node, node_of, with_node, with_nodes, channel_of, after_call}
use Rattle.world.specs.Refusing.{IsRefusal, by_reorg, sending_refusal, sent_by, oldest_in, delivery_refusal, delivered, answered}
use Rattle.world.specs.Keeping.{keep_refusal, IsKept}
use Rattle.world.specs.Publishing.{preimages_known, commitment_in, closing_in, htlc_tx_in, refusal_by}
use Rattle.world.specs.Releasing.{take_refusal, with_taken, release_refusal, IsReleased}
use Rattle.world.specs.Looking.{Looks, back_to}

-- ---- calls of a book whose message goes to the peer

abbrev pub own_call : ℕ → OwnUpdate → Call
own_call c u = calls.Step c (Own u)

-- why a side does not make a call in a channel, and the world after the call: its message is on its way to the peer
abbrev pub call_refusal : Side → ℕ → Call → World → Option EventError
call_refusal s c call w = sending_refusal c call (node_of s w) (node_of (other s) w)

abbrev pub world_after_call : Side → ℕ → Call → World → World
world_after_call s c call w = with_nodes s (after_call call (node_of s w)) (sent_by c call (node_of s w) (node_of (other s) w)) w

-- why a side does not receive its oldest message in a channel, and the world after the delivery: the answer is on its way to the peer
abbrev pub receipt_refusal : Side → ℕ → World → Option EventError
receipt_refusal s c w = delivery_refusal c (oldest_in (slice_get (node_of s w).lines c))
    (node_of s w) (node_of (other s) w)

abbrev pub world_after_delivery : Side → ℕ → World → World
world_after_delivery s c w =
    let message = oldest_in (slice_get (node_of s w).lines c) in
    with_nodes s (delivered c message (node_of s w)) (answered c message (node_of s w) (node_of (other s) w)) w

-- ---- the chain and its pool

-- a transaction waits for a block
abbrev pub with_waiting : Transaction → World → World
with_waiting t w = record w { pool = w.pool ++ t ∷ [] }

-- a filling was released, and waits for a block
abbrev pub with_released : Transaction → World → World
with_released t w = record w { pool = w.pool ++ t ∷ []; released = w.released ++ t ∷ [] }

-- the chain has other blocks, and the pool has the transactions that still wait
abbrev pub with_mined : Mined → World → World
with_mined m w = record w { chain = m.chain; pool = m.waiting }

-- the height of the chain, and the number of transactions in the new blocks
abbrev pub blocks_outcome : Mined → Outcome
blocks_outcome m = MinedBlocks (height_of m.chain.blocks) m.txs

-- both sides go back to a height
abbrev pub both_back : ℕ → World → World
both_back height w = record w { a = back_to height w.a; b = back_to height w.b }

-- ---- one event

-- why an event is refused, barring out-of-memory
abbrev pub refusal_of : World → Event → Option EventError
refusal_of w (events.Own s c update) = call_refusal s c (own_call c update) w
refusal_of w (events.Sign s c) = call_refusal s c (calls.Sign c) w
refusal_of w (events.Deliver s c) = receipt_refusal s c w
refusal_of w (events.Keep s c n) = keep_refusal n (channel_of (node_of s w) c)
refusal_of w (events.Broadcast s c n) = refusal_by (commitment_in n (channel_of (node_of s w) c))
refusal_of w (events.BroadcastHtlc s c n k) = refusal_by (htlc_tx_in n k (preimages_known c (node_of s w)) (channel_of (node_of s w) c))
refusal_of w (events.Blocks k) = None
refusal_of w (events.Look s) = None
refusal_of w (events.Take s k) = take_refusal k (node_of s w)
refusal_of w (events.Release s k) = release_refusal k (node_of s w)
refusal_of w (events.Reorg depth forgotten) = option_map by_reorg (reorg_refusal w.chain depth forgotten)
refusal_of w (events.Close s c) = refusal_by (closing_in (channel_of (node_of s w) c))

-- what happens if nothing refuses the event
pub data Happens (w : World) : Event → World → Outcome → Type 0 where
  updates : {s : Side} {c : ℕ} {update : OwnUpdate} → Happens w (events.Own s c update) (world_after_call s c (own_call c update) w) Done
  signs : {s : Side} {c : ℕ} → Happens w (events.Sign s c) (world_after_call s c (calls.Sign c) w) Done
  receives : {s : Side} {c : ℕ} → Happens w (events.Deliver s c) (world_after_delivery s c w) Done
  keeps : {s : Side} {c n : ℕ} {after : Node} → IsKept (node_of s w) c n after → Happens w (events.Keep s c n) (with_node s after w) Done
  broadcasts : {s : Side} {c n : ℕ} {t : Transaction} → commitment_in n (channel_of (node_of s w) c) ≡ Ok t → Happens w (events.Broadcast s c n) (with_waiting t w) Done
  broadcasts_htlc : {s : Side} {c n k : ℕ} {t : Transaction} → htlc_tx_in n k (preimages_known c (node_of s w)) (channel_of (node_of s w) c) ≡ Ok t
      → Happens w (events.BroadcastHtlc s c n k) (with_waiting t w) Done
  mines : {k : ℕ} {m : Mined} → m ≡ mined_by k w.chain w.pool → Happens w (events.Blocks k) (with_mined m w) (blocks_outcome m)
  looks : {s : Side} {after : Node} {count : ℕ} → Looks (node_of s w) w.chain.blocks after count → Happens w (events.Look s) (with_node s after w) (Looked count)
  takes : {s : Side} {k : ℕ} → Happens w (events.Take s k) (with_node s (with_taken k (node_of s w)) w) Done
  releases : {s : Side} {k : ℕ} {after : Node} {t : Transaction} → IsReleased k (node_of s w) after t
      → Happens w (events.Release s k) (with_released t (with_node s after w)) Done
  reorganises : {depth forgotten : ℕ} {m : Mined} → m ≡ reorganised depth forgotten w.chain w.pool w.released
      → Happens w (events.Reorg depth forgotten) (both_back (height_of w.chain.blocks - depth) (with_mined m w)) (blocks_outcome m)
  closes : {s : Side} {c : ℕ} {t : Transaction} → closing_in (channel_of (node_of s w) c) ≡ Ok t
      → Happens w (events.Close s c) (with_waiting t (with_node s (after_call (calls.Close c) (node_of s w)) w)) Done

-- what an event leaves: it happens if nothing refuses it, and a refused event changes nothing
abbrev pub IsPlayed : World → Event → Result Outcome EventError → World → Type 0
IsPlayed w e (Ok o) new = (refusal_of w e ≡ None) × Happens w e new o
IsPlayed w e (Err r) new = IsRefusal (refusal_of w e) r × (new ≡ w)

-- maps success to Done; and the outcome of a look
abbrev pub done_by : Result (Unit {0}) EventError → Result Outcome EventError
done_by (Ok x) = Ok Done
done_by (Err r) = Err r

abbrev pub looked_by : Result ℕ EventError → Result Outcome EventError
looked_by (Ok k) = Ok (Looked k)
looked_by (Err r) = Err r

-- one event: it happens if nothing refuses it; a refused event leaves the world as it was and, barring out-of-memory, names the first refusal that applies
pub data WorldSteps (w : World) (e : Event) : World → Outcome → Type 0 where
  happens : {after : World} {o : Outcome} → refusal_of w e ≡ None → Happens w e after o → WorldSteps w e after o
  refuses : {r : EventError} → refusal_of w e ≡ Some r → WorldSteps w e w (Refused r)
  runs_out : WorldSteps w e w (Refused NoMemory)

-- a run: each event of a list with its outcome, and the world at each moment, including the first and the last
pub data Runs : World → List Event → List Outcome → List World → World → Type 0 where
  ends : {w : World} → Runs w [] [] (w ∷ []) w
  goes_on : {w v end : World} {e : Event} {es : List Event} {o : Outcome} {os : List Outcome} {moments : List World}
      → WorldSteps w e v o → Runs v es os moments end → Runs w (e ∷ es) (o ∷ os) (w ∷ moments) end
