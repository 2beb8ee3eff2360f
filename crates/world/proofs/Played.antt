-- What an event does to the world, by what it does to the sides.
use Rattle.std.proofs.Common.{◌≡◌, ℕ, ◌-◌, ◌+◌, ◌≤◌, ◌==◌, ◌||◌, Bool, true, false, List, [], ◌∷◌, ◌++◌, length, take, Option, Some, None, Result, Ok, Err, refl, sym, ap, subst, ◌∙◌, arith}
use Rattle.std.specs.Prelude.{nat_lt, if◌then◌else◌, MatchResult, IfOk, IfErr, OnErr, slice_get, option_map}
use Rattle.std.specs.List.{list_any}
use Rattle.std.proofs.lemmas.Bool.Decides.{nat_tests}
use Rattle.tx.specs.Fields.{Transaction}
use Rattle.terms.specs.declared.sides.Side.{Side}
use Rattle.terms.specs.declared.sides.Side.TheVariants.{A, B}
use Rattle.terms.specs.Sides.{other}
use Rattle.chain.specs.Blocks.{Standing, height_of, transactions_of}
use Rattle.chain.specs.Connecting.{has_grant}
use Rattle.mempool.specs.declared.errors.ReorgError.{ReorgError}
use Rattle.mempool.specs.declared.errors.ReorgError.TheVariants as reorgs
use Rattle.mempool.specs.Mining.{Mined, mined_by}
use Rattle.mempool.specs.Reorganising.{reorg_refusal, IsReorganised, IsRefusal as IsReorgRefusal}
use Rattle.updates.specs.declared.changes.OwnUpdate.{OwnUpdate}
use Rattle.scenario.specs.declared.events.Event.{Event}
use Rattle.scenario.specs.declared.events.Event.TheVariants as events
use Rattle.book.specs.declared.calls.Call.{Call}
use Rattle.book.specs.declared.calls.Call.TheVariants as calls
use Rattle.world.specs.declared.errors.EventError.{EventError}
use Rattle.world.specs.declared.errors.EventError.TheVariants as errors
use Rattle.world.specs.declared.outcomes.Outcome.{Outcome}
use Rattle.world.specs.declared.outcomes.Outcome.TheVariants.{Done, Mined as MinedBlocks, Refused}
use Rattle.world.specs.Worlds.{World, Node, node_of, with_node, with_nodes, channel_of, after_call}
use Rattle.world.specs.Refusing.{by_reorg, sent_by, oldest_in, delivered, answered, IsRefusal, IsEvent}
use Rattle.world.specs.Keeping.{keep_refusal, IsKept}
use Rattle.world.specs.Publishing.{preimages_known, commitment_in, closing_in, htlc_tx_in, refusal_by, IsAnswer, IsClosedTo}
use Rattle.world.specs.Releasing.{take_refusal, with_taken, release_refusal, IsReleasedTo}
use Rattle.world.specs.Looking.{Looks}
use Rattle.world.specs.Steps.{
  own_call,
  call_refusal,
  world_after_call,
  receipt_refusal,
  world_after_delivery,
  with_waiting,
  with_mined,
  blocks_outcome,
  both_back,
  refusal_of,
  Happens,
  updates,
  signs,
  receives,
  keeps,
  broadcasts,
  broadcasts_htlc,
  mines,
  looks,
  takes,
  releases,
  reorganises,
  closes,
  IsPlayed,
  done_by,
  looked_by,
  WorldSteps,
  happens,
  refuses,
  runs_out,
}

-- ---- sides of a world

same_side : (s : Side) (w : World) → with_node s (node_of s w) w ≡ w
same_side A w = refl
same_side B w = refl

same_sides : (s : Side) (w : World) → with_nodes s (node_of s w) (node_of (other s) w) w ≡ w
same_sides A w = refl
same_sides B w = refl

of_one : {X S T : Type 0} (f : S → T) (first : Option EventError) (r : Result X EventError) (old done new : S) → IsEvent first r old done new → IsEvent first r (f old) (f done) (f new)
of_one f first (Ok x) old done new is = (is.0, ap f is.1)
of_one f first (Err e) old done new is = (is.0, ap f is.1)

of_both : {X S T : Type 0} (f : S → S → T) (first : Option EventError) (r : Result X EventError) (old done new peer told after : S) → IsEvent first r old done new → IsEvent first r peer told after
    → IsEvent first r (f old peer) (f done told) (f new after)
of_both f first (Ok x) old done new peer told after is peers = (is.0, ap (λ n. f n after) is.1 ∙ ap (f done) peers.1)
of_both f first (Err e) old done new peer told after is peers = (is.0, ap (λ n. f n after) is.1 ∙ ap (f old) peers.1)

-- ---- what is played

acted : (w done new : World) (e : Event) (r : Result (Unit {0}) EventError) (o : Result Outcome EventError) → o ≡ done_by r → Happens w e done Done → IsEvent (refusal_of w e) r w done new → IsPlayed w e o new
acted w done new e r o is it event = subst (λ (x : Result Outcome EventError). IsPlayed w e x new) (sym is) (by r event)
  where
    by : (r : Result (Unit {0}) EventError) → IsEvent (refusal_of w e) r w done new → IsPlayed w e (done_by r) new
    by (Ok x) event = (event.0, subst (λ (v : World). Happens w e v Done) (sym event.1) it)
    by (Err x) event = event

-- a call whose message goes to the peer
is_called : (w : World) (s : Side) (c : ℕ) (call : Call) (r : Result (Unit {0}) EventError) (me peer : Node)
    → IsEvent (call_refusal s c call w) r (node_of s w) (after_call call (node_of s w)) me
    → IsEvent (call_refusal s c call w) r (node_of (other s) w) (sent_by c call (node_of s w) (node_of (other s) w)) peer
    → IsEvent (call_refusal s c call w) r w (world_after_call s c call w) (with_nodes s me peer w)
is_called w s c call r me peer is peers =
    subst (λ (v : World). IsEvent (call_refusal s c call w) r v (world_after_call s c call w) (with_nodes s me peer w)) (same_sides s w)
    (of_both (λ m p. with_nodes s m p w) (call_refusal s c call w) r (node_of s w) (after_call call (node_of s w)) me (node_of (other s) w) (sent_by c call (node_of s w) (node_of (other s) w)) peer is peers)

pub is_updated : (w : World) (s : Side) (c : ℕ) (u : OwnUpdate) (r : Result (Unit {0}) EventError) (o : Result Outcome EventError) (me peer : Node) → o ≡ done_by r
    → IsEvent (call_refusal s c (own_call c u) w) r (node_of s w) (after_call (own_call c u) (node_of s w)) me
    → IsEvent (call_refusal s c (own_call c u) w) r (node_of (other s) w) (sent_by c (own_call c u) (node_of s w) (node_of (other s) w)) peer
    → IsPlayed w (events.Own s c u) o (with_nodes s me peer w)
is_updated w s c u r o me peer by is peers =
    acted w (world_after_call s c (own_call c u) w) (with_nodes s me peer w) (events.Own s c u) r o by updates (is_called w s c (own_call c u) r me peer is peers)

pub is_signed : (w : World) (s : Side) (c : ℕ) (r : Result (Unit {0}) EventError) (o : Result Outcome EventError) (me peer : Node) → o ≡ done_by r
    → IsEvent (call_refusal s c (calls.Sign c) w) r (node_of s w) (after_call (calls.Sign c) (node_of s w)) me
    → IsEvent (call_refusal s c (calls.Sign c) w) r (node_of (other s) w) (sent_by c (calls.Sign c) (node_of s w) (node_of (other s) w)) peer
    → IsPlayed w (events.Sign s c) o (with_nodes s me peer w)
is_signed w s c r o me peer by is peers =
    acted w (world_after_call s c (calls.Sign c) w) (with_nodes s me peer w) (events.Sign s c) r o by signs (is_called w s c (calls.Sign c) r me peer is peers)

-- a delivered message
pub is_received : (w : World) (s : Side) (c : ℕ) (r : Result (Unit {0}) EventError) (o : Result Outcome EventError) (me peer : Node) → o ≡ done_by r
    → IsEvent (receipt_refusal s c w) r (node_of s w) (delivered c (oldest_in (slice_get (node_of s w).lines c)) (node_of s w)) me
    → IsEvent (receipt_refusal s c w) r (node_of (other s) w) (answered c (oldest_in (slice_get (node_of s w).lines c)) (node_of s w) (node_of (other s) w)) peer
    → IsPlayed w (events.Deliver s c) o (with_nodes s me peer w)
is_received w s c r o me peer by is peers =
    let message = oldest_in (slice_get (node_of s w).lines c) in
    let event =
    of_both (λ m p. with_nodes s m p w) (receipt_refusal s c w) r (node_of s w) (delivered c message (node_of s w)) me (node_of (other s) w) (answered c message (node_of s w) (node_of (other s) w)) peer is peers
    in
    acted w (world_after_delivery s c w) (with_nodes s me peer w) (events.Deliver s c) r o by receives
    (subst (λ (v : World). IsEvent (receipt_refusal s c w) r v (world_after_delivery s c w) (with_nodes s me peer w)) (same_sides s w) event)

-- ---- one side

pub is_kept : (w : World) (s : Side) (c n : ℕ) (r : Result (Unit {0}) EventError) (o : Result Outcome EventError) (me : Node) → o ≡ done_by r
    → MatchResult r (λ x. (keep_refusal n (channel_of (node_of s w) c) ≡ None) × IsKept (node_of s w) c n me) (λ e. IsRefusal (keep_refusal n (channel_of (node_of s w) c)) e × (me ≡ node_of s w))
    → IsPlayed w (events.Keep s c n) o (with_node s me w)
is_kept w s c n (Ok x) o me by is = subst (λ (y : Result Outcome EventError). IsPlayed w (events.Keep s c n) y (with_node s me w)) (sym by) (is.0, keeps is.1)
is_kept w s c n (Err e) o me by is = subst (λ (y : Result Outcome EventError). IsPlayed w (events.Keep s c n) y (with_node s me w)) (sym by) (is.0, ap (λ m. with_node s m w) is.1 ∙ same_side s w)

pub is_looked : (w : World) (s : Side) (r : Result ℕ EventError) (o : Result Outcome EventError) (me : Node) → o ≡ looked_by r
    → IfOk r (Looks (node_of s w) w.chain.blocks me) → IfErr r (λ e. e ≡ errors.NoMemory) → OnErr r (me ≡ node_of s w) → IsPlayed w (events.Look s) o (with_node s me w)
is_looked w s (Ok k) o me by is none same = subst (λ (y : Result Outcome EventError). IsPlayed w (events.Look s) y (with_node s me w)) (sym by) (refl, looks is)
is_looked w s (Err e) o me by is none same =
    subst (λ (y : Result Outcome EventError). IsPlayed w (events.Look s) y (with_node s me w)) (sym by)
    (subst (λ (x : EventError). IsRefusal None x) (sym none) tt, ap (λ m. with_node s m w) same ∙ same_side s w)

pub is_taken : (w : World) (s : Side) (k : ℕ) (r : Result (Unit {0}) EventError) (o : Result Outcome EventError) (me : Node) → o ≡ done_by r
    → IsEvent (take_refusal k (node_of s w)) r (node_of s w) (with_taken k (node_of s w)) me → IsPlayed w (events.Take s k) o (with_node s me w)
is_taken w s k r o me by is =
    acted w (with_node s (with_taken k (node_of s w)) w) (with_node s me w) (events.Take s k) r o by takes
    (subst (λ (v : World). IsEvent (take_refusal k (node_of s w)) r v (with_node s (with_taken k (node_of s w)) w) (with_node s me w)) (same_side s w)
    (of_one (λ m. with_node s m w) (take_refusal k (node_of s w)) r (node_of s w) (with_taken k (node_of s w)) me is))

-- ---- the pool

-- the refusal in a result is a refusal
pub unanswered : {X : Type 0} (answer : Result X EventError) (e : EventError) → IsAnswer answer (Err e) → IsRefusal (refusal_by answer) e
unanswered answer errors.NoMemory is = tt
unanswered answer errors.NoSuchChannel is = ap refusal_by is
unanswered answer errors.NoMessage is = ap refusal_by is
unanswered answer errors.NoSuchTx is = ap refusal_by is
unanswered answer errors.NoJob is = ap refusal_by is
unanswered answer errors.MixedChannels is = ap refusal_by is
unanswered answer errors.OverValue is = ap refusal_by is
unanswered answer errors.TooDeep is = ap refusal_by is
unanswered answer (errors.Channel r) is = ap refusal_by is
unanswered answer (errors.Sign r) is = ap refusal_by is
unanswered answer (errors.Keep r) is = ap refusal_by is
unanswered answer (errors.Fill r) is = ap refusal_by is
unanswered answer errors.ChannelClosed is = ap refusal_by is

-- a transaction waits, or memory ran out
abbrev pub IsWaiting : Transaction → World → Result Outcome EventError → World → Type 0
IsWaiting t w r v = MatchResult r (λ o. (o ≡ Done) × (v ≡ with_waiting t w)) (λ e. (e ≡ errors.NoMemory) × (v ≡ w))

published : (w v : World) (e : Event) (t : Transaction) (r : Result Outcome EventError) → refusal_of w e ≡ None → Happens w e (with_waiting t w) Done → IsWaiting t w r v → IsPlayed w e r v
published w v e t (Ok o) none it is = (none, subst (λ (x : Outcome). Happens w e v x) (sym is.0) (subst (λ (x : World). Happens w e x Done) (sym is.1) it))
published w v e t (Err x) none it is = (subst (λ (y : EventError). IsRefusal (refusal_of w e) y) (sym is.0) tt, is.1)

pub is_broadcast : (w v : World) (s : Side) (c n : ℕ) (t : Transaction) (r : Result Outcome EventError) → commitment_in n (channel_of (node_of s w) c) ≡ Ok t → IsWaiting t w r v
    → IsPlayed w (events.Broadcast s c n) r v
is_broadcast w v s c n t r found is = published w v (events.Broadcast s c n) t r (ap refusal_by found) (broadcasts found) is

pub is_htlc_broadcast : (w v : World) (s : Side) (c n k : ℕ) (t : Transaction) (r : Result Outcome EventError)
    → htlc_tx_in n k (preimages_known c (node_of s w)) (channel_of (node_of s w) c) ≡ Ok t → IsWaiting t w r v → IsPlayed w (events.BroadcastHtlc s c n k) r v
is_htlc_broadcast w v s c n k t r found is = published w v (events.BroadcastHtlc s c n k) t r (ap refusal_by found) (broadcasts_htlc found) is

-- a side's release waits for a block, and is among the released
pub is_released : (w : World) (s : Side) (k : ℕ) (r : Result Outcome EventError) (me : Node) (waiting fillings : List Transaction)
    → MatchResult r (λ o. (release_refusal k (node_of s w) ≡ None) × (o ≡ Done) × IsReleasedTo k (node_of s w) me w.pool w.released waiting fillings)
    (λ e. IsRefusal (release_refusal k (node_of s w)) e × (me ≡ node_of s w) × (waiting ≡ w.pool) × (fillings ≡ w.released))
    → IsPlayed w (events.Release s k) r (record (with_node s me w) { pool = waiting; released = fillings })
is_released w A k (Ok o) me waiting fillings (none, done, is) =
    (none, subst (λ (x : Outcome). Happens w (events.Release A k) (record w { a = me; pool = waiting; released = fillings }) x) (sym done) (subst (λ (v : World). Happens w (events.Release A k) v Done) (sym at) (releases is.is)))
  where
    at : record w { a = me; pool = waiting; released = fillings } ≡ record w { a = me; pool = w.pool ++ is.tx ∷ []; released = w.released ++ is.tx ∷ [] }
    at = ap (λ ts. record w { a = me; pool = ts; released = fillings }) is.waits ∙ ap (λ ts. record w { a = me; pool = w.pool ++ is.tx ∷ []; released = ts }) is.stays
is_released w B k (Ok o) me waiting fillings (none, done, is) =
    (none, subst (λ (x : Outcome). Happens w (events.Release B k) (record w { b = me; pool = waiting; released = fillings }) x) (sym done) (subst (λ (v : World). Happens w (events.Release B k) v Done) (sym at) (releases is.is)))
  where
    at : record w { b = me; pool = waiting; released = fillings } ≡ record w { b = me; pool = w.pool ++ is.tx ∷ []; released = w.released ++ is.tx ∷ [] }
    at = ap (λ ts. record w { b = me; pool = ts; released = fillings }) is.waits ∙ ap (λ ts. record w { b = me; pool = w.pool ++ is.tx ∷ []; released = ts }) is.stays
is_released w A k (Err e) me waiting fillings (refusal, same, pool, released) =
    (refusal, ap (λ m. record w { a = m; pool = waiting; released = fillings }) same ∙ ap (λ ts. record w { pool = ts; released = fillings }) pool ∙ ap (λ ts. record w { released = ts }) released)
is_released w B k (Err e) me waiting fillings (refusal, same, pool, released) =
    (refusal, ap (λ m. record w { b = m; pool = waiting; released = fillings }) same ∙ ap (λ ts. record w { pool = ts; released = fillings }) pool ∙ ap (λ ts. record w { released = ts }) released)

-- a side closes a channel, and its newest commitment waits for a block
pub is_closed : (w : World) (s : Side) (c : ℕ) (r : Result Outcome EventError) (me : Node) (waiting : List Transaction)
    → MatchResult r (λ o. (o ≡ Done) × IsClosedTo c (node_of s w) me w.pool waiting)
    (λ e. IsRefusal (refusal_by (closing_in (channel_of (node_of s w) c))) e × (me ≡ node_of s w) × (waiting ≡ w.pool))
    → IsPlayed w (events.Close s c) r (record (with_node s me w) { pool = waiting })
is_closed w A c (Ok o) me waiting (done, is) =
    (ap refusal_by is.is, subst (λ (x : Outcome). Happens w (events.Close A c) (record w { a = me; pool = waiting }) x) (sym done) (subst (λ (v : World). Happens w (events.Close A c) v Done) (sym at) (closes is.is)))
  where
    at : record w { a = me; pool = waiting } ≡ record w { a = after_call (calls.Close c) w.a; pool = w.pool ++ is.tx ∷ [] }
    at = ap (λ (n : Node). record w { a = n; pool = waiting }) is.after ∙ ap (λ ts. record w { a = after_call (calls.Close c) w.a; pool = ts }) is.waits
is_closed w B c (Ok o) me waiting (done, is) =
    (ap refusal_by is.is, subst (λ (x : Outcome). Happens w (events.Close B c) (record w { b = me; pool = waiting }) x) (sym done) (subst (λ (v : World). Happens w (events.Close B c) v Done) (sym at) (closes is.is)))
  where
    at : record w { b = me; pool = waiting } ≡ record w { b = after_call (calls.Close c) w.b; pool = w.pool ++ is.tx ∷ [] }
    at = ap (λ (n : Node). record w { b = n; pool = waiting }) is.after ∙ ap (λ ts. record w { b = after_call (calls.Close c) w.b; pool = ts }) is.waits
is_closed w A c (Err e) me waiting (refusal, same, pool) = (refusal, ap (λ (n : Node). record w { a = n; pool = waiting }) same ∙ ap (λ ts. record w { pool = ts }) pool)
is_closed w B c (Err e) me waiting (refusal, same, pool) = (refusal, ap (λ (n : Node). record w { b = n; pool = waiting }) same ∙ ap (λ ts. record w { pool = ts }) pool)

-- ---- blocks

pub is_mined : (w : World) (k : ℕ) (m : Mined) (height : ℕ) → mined_by k w.chain w.pool ≡ m → height ≡ height_of m.chain.blocks
    → IsPlayed w (events.Blocks k) (Ok (MinedBlocks height m.txs)) (with_mined m w)
is_mined w k m height is tip = (refl, subst (λ (h : ℕ). Happens w (events.Blocks k) (with_mined m w) (MinedBlocks h m.txs)) (sym tip) (mines (sym is)))

-- there are as many blocks above the first as are replaced
pub not_deep : (s : Standing) (depth forgotten : ℕ) → reorg_refusal s depth forgotten ≡ None → depth ≤ height_of s.blocks
not_deep s depth forgotten none =
    by (depth == 0) (nat_lt (height_of s.blocks) depth) (nat_lt (height_of s.blocks - depth + 6) s.greatest) (list_any has_grant (take depth s.blocks))
    (if nat_lt (length (transactions_of (take depth s.blocks))) forgotten then Some reorgs.NoSuchTx else None) refl none
  where
    by : (none low over granted : Bool) (later : Option ReorgError) → nat_lt (height_of s.blocks) depth ≡ low → (if none || ((low || over) || granted) then Some reorgs.TooDeep else later) ≡ None
        → depth ≤ height_of s.blocks
    by true low over granted later above e = absurd cc
    by false true over granted later above e = absurd cc
    by false false over granted later above e = grind (arith, nat_tests)

pub is_reorganised : (w v : World) (depth forgotten : ℕ) (m : Mined) (o : Outcome) → IsReorganised w.chain w.pool w.released depth forgotten m.chain m.waiting m.txs
    → v ≡ both_back (height_of w.chain.blocks - depth) (with_mined m w) → o ≡ blocks_outcome m → IsPlayed w (events.Reorg depth forgotten) (Ok o) v
is_reorganised w v depth forgotten m o is world outcome = (
  ap (option_map by_reorg) is.lawful,
  subst (λ (x : Outcome). Happens w (events.Reorg depth forgotten) v x) (sym outcome)
      (subst (λ (x : World). Happens w (events.Reorg depth forgotten) x (blocks_outcome m)) (sym world) (reorganises (sym is.mined))),
)

pub not_reorganised : (w : World) (depth forgotten : ℕ) (e : ReorgError) (x : EventError) → IsReorgRefusal (reorg_refusal w.chain depth forgotten) e → x ≡ by_reorg e → IsPlayed w (events.Reorg depth forgotten) (Err x) w
not_reorganised w depth forgotten reorgs.NoMemory x is by = (subst (λ (y : EventError). IsRefusal (refusal_of w (events.Reorg depth forgotten)) y) (sym by) tt, refl)
not_reorganised w depth forgotten reorgs.TooDeep x is by = (subst (λ (y : EventError). IsRefusal (refusal_of w (events.Reorg depth forgotten)) y) (sym by) (ap (option_map by_reorg) is), refl)
not_reorganised w depth forgotten reorgs.NoSuchTx x is by = (subst (λ (y : EventError). IsRefusal (refusal_of w (events.Reorg depth forgotten)) y) (sym by) (ap (option_map by_reorg) is), refl)

-- ---- a step

pub played_steps : (w v : World) (e : Event) (o : Outcome) → IsPlayed w e (Ok o) v → WorldSteps w e v o
played_steps w v e o is = happens is.0 is.1

pub refused_steps : (w v : World) (e : Event) (r : EventError) → IsPlayed w e (Err r) v → WorldSteps w e v (Refused r)
refused_steps w v e r is = subst (λ (x : World). WorldSteps w e x (Refused r)) (sym is.1) (by r is.0)
  where
    by : (r : EventError) → IsRefusal (refusal_of w e) r → WorldSteps w e w (Refused r)
    by errors.NoMemory first = runs_out
    by errors.NoSuchChannel first = refuses first
    by errors.NoMessage first = refuses first
    by errors.NoSuchTx first = refuses first
    by errors.NoJob first = refuses first
    by errors.MixedChannels first = refuses first
    by errors.OverValue first = refuses first
    by errors.TooDeep first = refuses first
    by (errors.Channel x) first = refuses first
    by (errors.Sign x) first = refuses first
    by (errors.Keep x) first = refuses first
    by (errors.Fill x) first = refuses first
    by errors.ChannelClosed first = refuses first
