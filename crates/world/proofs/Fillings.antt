-- What was released are fillings of releases in the two sides' histories.
use Rattle.std.proofs.Common.{◌≡◌, ℕ, Bool, true, false, List, [], ◌∷◌, Contains, Result, Ok, Err, inl, inr, ⊎_elim, sym, ap, ◌∙◌, subst}
use Rattle.std.specs.Prelude.{◌⊎◌, slice_get}
use Rattle.std.proofs.lemmas.List.Elements.{Contains-append_left, Contains-push}
use Rattle.tx.specs.Fields.{Transaction}
use Rattle.terms.specs.declared.sides.Side.{Side}
use Rattle.terms.specs.declared.sides.Side.TheVariants.{A, B}
use Rattle.terms.specs.Sides.{other}
use Rattle.channel.specs.declared.messages.Message.{Message}
use Rattle.channel.specs.Tokens.{peer_tokens}
use Rattle.scenario.specs.declared.events.Event.{Event}
use Rattle.book.specs.declared.calls.Call.{Call}
use Rattle.book.specs.declared.calls.Call.TheVariants as calls
use Rattle.book.specs.declared.calls.Entry.{Entry}
use Rattle.book.specs.Replies.{is_accepted, reply_of, extended}
use Rattle.book.specs.Acts.{call_of}
use Rattle.world.specs.declared.errors.EventError.{EventError}
use Rattle.world.specs.declared.limits.TheConstants.{SEAT}
use Rattle.world.specs.declared.outcomes.Outcome.{Outcome}
use Rattle.world.specs.Worlds.{World, Node, node_of, with_node, with_nodes, channel_of, answer_to, after_call}
use Rattle.world.specs.Refusing.{sent_by, oldest_in, delivered, answered}
use Rattle.world.specs.Releasing.{with_taken, IsFillingIn, AreFillings}
use Rattle.world.specs.Steps.{own_call, with_released, Happens, updates, signs, receives, keeps, broadcasts, broadcasts_htlc, mines, looks, takes, releases, reorganises, closes, WorldSteps, happens, refuses, runs_out}
use Rattle.world.proofs.Whole.{all_append}
use Rattle.world.proofs.Releases.{same_filling}

-- ---- histories that grow

abbrev pub Grows : List Entry → List Entry → Type 0
Grows old new = (e : Entry) → Contains old e → Contains new e

extended_grows : (accepted : Bool) (history : List Entry) (seat : ℕ) (call : Call) → Grows history (extended accepted history seat call)
extended_grows true history seat call e h = Contains-append_left history (record { seat = seat; call = call } ∷ []) e h
extended_grows false history seat call e h = h

pub called_grows : (n : Node) (call : Call) → Grows n.history (after_call call n).history
called_grows n call = extended_grows (is_accepted (reply_of peer_tokens n.history call)) n.history SEAT call

-- an accepted call is in the history after it
called_noted : (n : Node) (call : Call) → is_accepted (answer_to n call) ≡ true → Contains (after_call call n).history (record { seat = SEAT; call = call })
called_noted n call ok = subst (λ (b : Bool). Contains (extended b n.history SEAT call) (record { seat = SEAT; call = call })) (sym ok) (Contains-push n.history (record { seat = SEAT; call = call }))

-- ---- fillings stay so

later : (old new : List Entry) (t : Transaction) → Grows old new → IsFillingIn old t → IsFillingIn new t
later old new t g f = record { seat = f.seat; channel = f.channel; batch = f.batch; noted = g (record { seat = f.seat; call = calls.Release f.channel f.batch }) f.noted; filled = f.filled }

pub fillings_grow : (a of_a b of_b : List Entry) (ts : List Transaction) → Grows a of_a → Grows b of_b → AreFillings a b ts → AreFillings of_a of_b ts
fillings_grow a of_a b of_b [] g h f = tt
fillings_grow a of_a b of_b (t ∷ ts) g h f =
    (⊎_elim (λ (x : IsFillingIn a t). inl (later a of_a t g x)) (λ (y : IsFillingIn b t). inr (later b of_b t h y)) f.0, fillings_grow a of_a b of_b ts g h f.1)

abbrev pub AreReleased : World → Type 0
AreReleased w = AreFillings w.a.history w.b.history w.released

-- one side changed; and both did
one_side : (s : Side) (n : Node) (w : World) → Grows (node_of s w).history n.history → AreReleased w → AreReleased (with_node s n w)
one_side A n w g f = fillings_grow w.a.history n.history w.b.history w.b.history w.released g (λ e h. h) f
one_side B n w g f = fillings_grow w.a.history w.a.history w.b.history n.history w.released (λ e h. h) g f

both_sides : (s : Side) (n peer : Node) (w : World) → Grows (node_of s w).history n.history → Grows (node_of (other s) w).history peer.history → AreReleased w → AreReleased (with_nodes s n peer w)
both_sides A n peer w g h f = fillings_grow w.a.history n.history w.b.history peer.history w.released g h f
both_sides B n peer w g h f = fillings_grow w.a.history peer.history w.b.history n.history w.released h g f

-- one more filling of a side was released
one_more : (s : Side) (n : Node) (t : Transaction) (w : World) → Grows (node_of s w).history n.history → IsFillingIn n.history t → AreReleased w → AreReleased (with_released t (with_node s n w))
one_more A n t w g is f =
    all_append (λ (x : Transaction). IsFillingIn n.history x ⊎ IsFillingIn w.b.history x) w.released (t ∷ [])
    (fillings_grow w.a.history n.history w.b.history w.b.history w.released g (λ e h. h) f) (inl is, tt)
one_more B n t w g is f =
    all_append (λ (x : Transaction). IsFillingIn w.a.history x ⊎ IsFillingIn n.history x) w.released (t ∷ [])
    (fillings_grow w.a.history w.a.history w.b.history n.history w.released (λ e h. h) g f) (inr is, tt)

-- ---- each event

delivered_grows : (c : ℕ) (o : Result Message EventError) (me : Node) → Grows me.history (delivered c o me).history
delivered_grows c (Ok m) me = called_grows me (call_of c m)
delivered_grows c (Err r) me = λ e h. h

answered_grows : (c : ℕ) (o : Result Message EventError) (me peer : Node) → Grows peer.history (answered c o me peer).history
answered_grows c (Ok m) me peer = λ e h. h
answered_grows c (Err r) me peer = λ e h. h

calling : (s : Side) (call : Call) (c : ℕ) (w : World) → AreReleased w → AreReleased (with_nodes s (after_call call (node_of s w)) (sent_by c call (node_of s w) (node_of (other s) w)) w)
calling s call c w f = both_sides s (after_call call (node_of s w)) (sent_by c call (node_of s w) (node_of (other s) w)) w (called_grows (node_of s w) call) (λ e h. h) f

happening : (w v : World) (e : Event) (o : Outcome) → AreReleased w → Happens w e v o → AreReleased v
happening w v e o f (updates {s} {c} {update}) = calling s (own_call c update) c w f
happening w v e o f (signs {s} {c}) = calling s (calls.Sign c) c w f
happening w v e o f (receives {s} {c}) =
    let message = oldest_in (slice_get (node_of s w).lines c) in
    both_sides s (delivered c message (node_of s w)) (answered c message (node_of s w) (node_of (other s) w)) w
    (delivered_grows c message (node_of s w)) (answered_grows c message (node_of s w) (node_of (other s) w)) f
happening w v e o f (keeps {s} {c} {n} {after} kept) =
    one_side s after w (subst (λ (m : Node). Grows (node_of s w).history m.history) (sym kept.after) (called_grows (node_of s w) (calls.Keep c n kept.claims))) f
happening w v e o f (broadcasts is) = f
happening w v e o f (broadcasts_htlc is) = f
happening w v e o f (mines is) = f
happening w v e o f (looks {s} {after} {count} l) = one_side s after w (subst (λ (m : Node). Grows (node_of s w).history m.history) (sym l.after) (λ x h. h)) f
happening w v e o f (takes {s} {k}) = one_side s (with_taken k (node_of s w)) w (λ x h. h) f
happening w v e o f (releases {s} {k} {after} {t} done) =
    let me = node_of s w in
    let call : Call = calls.Release done.channel done.batch in
    let is : IsFillingIn (after_call call me).history t
    = record {
      seat = SEAT;
      channel = done.channel;
      batch = done.batch;
      noted = called_noted me call (ap is_accepted done.answer);
      filled = done.tx ∙ same_filling (channel_of me done.channel) done.batch done.filling done.answer;
    } in
    one_more s after t w (subst (λ (m : Node). Grows me.history m.history) (sym done.after) (called_grows me call)) (subst (λ (m : Node). IsFillingIn m.history t) (sym done.after) is) f
happening w v e o f (reorganises {depth} {forgotten} {m} is) = f
happening w v e o f (closes {s} {c} {t} is) = one_side s (after_call (calls.Close c) (node_of s w)) w (called_grows (node_of s w) (calls.Close c)) f

pub released_after : (w v : World) (e : Event) (o : Outcome) → AreReleased w → WorldSteps w e v o → AreReleased v
released_after w v e o f (happens none h) = happening w v e o f h
released_after w v e o f (refuses some) = f
released_after w v e o f runs_out = f
