-- What a book records of its channels stays, whatever calls it gets.
use Rattle.std.proofs.Common.{◌≡◌, ℕ, zero, suc, Bool, true, false, List, [], ◌∷◌, Some, Result, Ok, Err, refl, sym, ap, ◌∙◌, subst}
use Rattle.std.specs.Prelude.{slice_get}
use Rattle.std.proofs.lemmas.Option.{none-some, same_Some}
use Rattle.tx.specs.Fields.{Transaction}
use Rattle.terms.specs.declared.sides.Side.{Side}
use Rattle.terms.specs.declared.sides.Side.TheVariants.{A, B}
use Rattle.terms.specs.Sides.{other}
use Rattle.channel.specs.declared.messages.Message.{Message}
use Rattle.updates.specs.declared.messages.PeerStep.TheVariants.{Update as Updated, CommitmentSigned}
use Rattle.channel.specs.declared.messages.Message.TheVariants.{Step as StepMessage, RevokeAndAck}
use Rattle.channel.specs.States.{after_sign, after}
use Rattle.channel.specs.Tokens.{peer_tokens}
use Rattle.book.specs.declared.calls.Step.{Step}
use Rattle.book.specs.declared.calls.Call.{Call}
use Rattle.book.specs.declared.calls.Call.TheVariants as calls
use Rattle.book.specs.declared.calls.Entry.{Entry}
use Rattle.book.specs.Books.{ChannelBook, Channels, at_index, stepped, with_state, with_kept, with_closed, channels_after, replay}
use Rattle.book.specs.Growing.{Grew, IsLater}
use Rattle.book.proofs.Growing.{GrowsBy, unchanged, step_grew, sign_grew, revoke_grew, same_later, call_later, replay_more}
use Rattle.book.specs.Replies.{is_accepted, reply_of, extended}
use Rattle.scenario.specs.declared.events.Event.{Event}
use Rattle.book.specs.Acts.{call_of}
use Rattle.world.specs.declared.errors.EventError.{EventError}
use Rattle.world.specs.declared.limits.TheConstants.{SEAT}
use Rattle.world.specs.declared.outcomes.Outcome.{Outcome}
use Rattle.world.specs.Worlds.{World, Node, node_of, with_node, with_nodes, after_call, opens_none}
use Rattle.world.specs.Refusing.{sent_by, oldest_in, delivered, answered}
use Rattle.world.specs.Releasing.{with_taken}
use Rattle.world.specs.Steps.{own_call, with_waiting, with_released, Happens, updates, signs, receives, keeps, broadcasts, broadcasts_htlc, mines, looks, takes, releases, reorganises, closes, WorldSteps, happens, refuses, runs_out}
use Rattle.world.proofs.Fillings.{Grows, called_grows}

-- ---- the channels after a call

-- a channel was there before
pub record WasThere (c : ℕ) (new : ChannelBook) (chs : Channels) : Type 0 where
  pub old : ChannelBook
  pub there : slice_get chs c ≡ Some old
  pub grew : Grew old.state new.state

same_there : (c : ℕ) (chs : Channels) (ch : ChannelBook) → slice_get chs c ≡ Some ch → WasThere c ch chs
same_there c chs ch at = record { old = ch; there = at; grew = unchanged ch.state }

changed_there : (f : ChannelBook → ChannelBook) → GrowsBy f → (d c : ℕ) (chs : Channels) (ch : ChannelBook) → slice_get (at_index f d chs) c ≡ Some ch → WasThere c ch chs
changed_there f grows d c [] ch at = absurd (none-some ch at)
changed_there f grows zero zero (x ∷ xs) ch at = record { old = x; there = refl; grew = subst (λ (y : ChannelBook). Grew x.state y.state) (same_Some (f x) ch at) (grows x) }
changed_there f grows zero (suc c) (x ∷ xs) ch at = same_there (suc c) (x ∷ xs) ch at
changed_there f grows (suc d) zero (x ∷ xs) ch at = same_there zero (x ∷ xs) ch at
changed_there f grows (suc d) (suc c) (x ∷ xs) ch at = let l = changed_there f grows d c xs ch at in record { old = l.old; there = l.there; grew = l.grew }

pub call_there : (call : Call) (c : ℕ) (chs : Channels) (ch : ChannelBook) → opens_none call ≡ true → slice_get (channels_after call chs) c ≡ Some ch → WasThere c ch chs
call_there (calls.Open o) c chs ch none at = absurd cc
call_there (calls.Step d step) c chs ch none at = changed_there (with_state (stepped step)) (λ x. step_grew step x.state) d c chs ch at
call_there (calls.Sign d) c chs ch none at = changed_there (with_state after_sign) (λ x. sign_grew x.state) d c chs ch at
call_there (calls.Revoke d revocation) c chs ch none at = changed_there (with_state (λ s. after s (RevokeAndAck revocation))) (λ x. revoke_grew revocation.secret revocation.next_point x.state) d c chs ch at
call_there (calls.Keep d n claims) c chs ch none at = changed_there (with_kept n) (λ x. unchanged x.state) d c chs ch at
call_there (calls.Release d batch) c chs ch none at = same_there c chs ch at
call_there (calls.Close d) c chs ch none at = changed_there with_closed (λ x. unchanged x.state) d c chs ch at

-- ---- histories

-- the channels of a history are there later
abbrev pub StayLater : List Entry → List Entry → Type 0
StayLater old new = (c : ℕ) (ch : ChannelBook) → slice_get (replay old) c ≡ Some ch → IsLater c ch (replay new)

-- entries stay, and so does what is recorded of channels; and no channel was opened
pub record IsGrown (old new : List Entry) : Type 0 where
  pub entries : Grows old new
  pub later : StayLater old new
  pub there : (c : ℕ) (ch : ChannelBook) → slice_get (replay new) c ≡ Some ch → WasThere c ch (replay old)

pub same_grown : (history : List Entry) → IsGrown history history
same_grown history = record { entries = λ e h. h; later = λ c ch at. same_later c (replay history) ch at; there = λ c ch at. same_there c (replay history) ch at }

extended_later : (accepted : Bool) (history : List Entry) (seat : ℕ) (call : Call) → StayLater history (extended accepted history seat call)
extended_later false history seat call = λ c ch at. same_later c (replay history) ch at
extended_later true history seat call = λ c ch at. subst (IsLater c ch) (sym (replay_more history seat call)) (call_later call c (replay history) ch at)

pub called_later : (n : Node) (call : Call) → StayLater n.history (after_call call n).history
called_later n call = extended_later (is_accepted (reply_of peer_tokens n.history call)) n.history SEAT call

extended_grown : (accepted : Bool) (history : List Entry) (seat : ℕ) (call : Call) → opens_none call ≡ true → Grows history (extended accepted history seat call) → IsGrown history (extended accepted history seat call)
extended_grown false history seat call none grows = same_grown history
extended_grown true history seat call none grows = record {
  entries = grows;
  later = extended_later true history seat call;
  there = λ c ch at. call_there call c (replay history) ch none (sym (ap (λ (chs : Channels). slice_get chs c) (replay_more history seat call)) ∙ at);
}

pub called_grown : (n : Node) (call : Call) → opens_none call ≡ true → IsGrown n.history (after_call call n).history
called_grown n call none = extended_grown (is_accepted (reply_of peer_tokens n.history call)) n.history SEAT call none (called_grows n call)

-- ---- both sides, in each event

-- the history of each side grew
abbrev pub AreLater : World → World → Type 0
AreLater w v = (s : Side) → IsGrown (node_of s w).history (node_of s v).history

pub one_later : (s : Side) (n : Node) (w : World) → IsGrown (node_of s w).history n.history → AreLater w (with_node s n w)
one_later A n w g A = g
one_later A n w g B = same_grown w.b.history
one_later B n w g A = same_grown w.a.history
one_later B n w g B = g

released_later : (s : Side) (n : Node) (t : Transaction) (w : World) → IsGrown (node_of s w).history n.history → AreLater w (with_released t (with_node s n w))
released_later A n t w g A = g
released_later A n t w g B = same_grown w.b.history
released_later B n t w g A = same_grown w.a.history
released_later B n t w g B = g

waiting_later : (s : Side) (n : Node) (t : Transaction) (w : World) → IsGrown (node_of s w).history n.history → AreLater w (with_waiting t (with_node s n w))
waiting_later A n t w g A = g
waiting_later A n t w g B = same_grown w.b.history
waiting_later B n t w g A = same_grown w.a.history
waiting_later B n t w g B = g

both_later : (s : Side) (n peer : Node) (w : World) → IsGrown (node_of s w).history n.history → IsGrown (node_of (other s) w).history peer.history → AreLater w (with_nodes s n peer w)
both_later A n peer w g h A = g
both_later A n peer w g h B = h
both_later B n peer w g h A = h
both_later B n peer w g h B = g

-- the calls of events open no channel
pub message_opens_none : (c : ℕ) (m : Message) → opens_none (call_of c m) ≡ true
message_opens_none c (StepMessage (Updated u)) = refl
message_opens_none c (StepMessage (CommitmentSigned tokens)) = refl
message_opens_none c (RevokeAndAck revocation) = refl

delivered_grown : (c : ℕ) (o : Result Message EventError) (me : Node) → IsGrown me.history (delivered c o me).history
delivered_grown c (Ok m) me = called_grown me (call_of c m) (message_opens_none c m)
delivered_grown c (Err r) me = same_grown me.history

answered_grown : (c : ℕ) (o : Result Message EventError) (me peer : Node) → IsGrown peer.history (answered c o me peer).history
answered_grown c (Ok m) me peer = same_grown peer.history
answered_grown c (Err r) me peer = same_grown peer.history

calling : (s : Side) (call : Call) (c : ℕ) (w : World) → opens_none call ≡ true → AreLater w (with_nodes s (after_call call (node_of s w)) (sent_by c call (node_of s w) (node_of (other s) w)) w)
calling s call c w none =
    both_later s (after_call call (node_of s w)) (sent_by c call (node_of s w) (node_of (other s) w)) w (called_grown (node_of s w) call none) (same_grown (node_of (other s) w).history)

-- both sides have the histories that they had
pub same_histories : (w v : World) → v.a.history ≡ w.a.history → v.b.history ≡ w.b.history → AreLater w v
same_histories w v a b A = subst (IsGrown w.a.history) (sym a) (same_grown w.a.history)
same_histories w v a b B = subst (IsGrown w.b.history) (sym b) (same_grown w.b.history)

happening : (w v : World) (e : Event) (o : Outcome) → Happens w e v o → AreLater w v
happening w v e o (updates {s} {c} {update}) = calling s (own_call c update) c w refl
happening w v e o (signs {s} {c}) = calling s (calls.Sign c) c w refl
happening w v e o (receives {s} {c}) =
    let message = oldest_in (slice_get (node_of s w).lines c) in
    both_later s (delivered c message (node_of s w)) (answered c message (node_of s w) (node_of (other s) w)) w
    (delivered_grown c message (node_of s w)) (answered_grown c message (node_of s w) (node_of (other s) w))
happening w v e o (keeps {s} {c} {n} {after} kept) =
    one_later s after w (subst (λ (m : Node). IsGrown (node_of s w).history m.history) (sym kept.after) (called_grown (node_of s w) (calls.Keep c n kept.claims) refl))
happening w v e o (broadcasts is) = same_histories w v refl refl
happening w v e o (broadcasts_htlc is) = same_histories w v refl refl
happening w v e o (mines is) = same_histories w v refl refl
happening w v e o (looks {s} {after} {count} l) = one_later s after w (subst (λ (m : Node). IsGrown (node_of s w).history m.history) (sym l.after) (same_grown (node_of s w).history))
happening w v e o (takes {s} {k}) = one_later s (with_taken k (node_of s w)) w (same_grown (node_of s w).history)
happening w v e o (releases {s} {k} {after} {t} done) =
    released_later s after t w (subst (λ (m : Node). IsGrown (node_of s w).history m.history) (sym done.after) (called_grown (node_of s w) (calls.Release done.channel done.batch) refl))
happening w v e o (reorganises {depth} {forgotten} {m} is) = same_histories w v refl refl
happening w v e o (closes {s} {c} {t} is) = waiting_later s (after_call (calls.Close c) (node_of s w)) t w (called_grown (node_of s w) (calls.Close c) refl)

pub are_later : (w v : World) (e : Event) (o : Outcome) → WorldSteps w e v o → AreLater w v
are_later w v e o (happens none h) = happening w v e o h
are_later w v e o (refuses some) = same_histories w w refl refl
are_later w v e o runs_out = same_histories w w refl refl
