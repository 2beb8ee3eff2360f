-- Each event keeps the invariant of a world.
use Rattle.std.proofs.Common.{◌≡◌, ℕ, ◌-◌, Bool, true, false, List, [], ◌∷◌, drop, Option, Some, None, Result, Ok, Err, refl, sym, ap, ◌∙◌, subst}
use Rattle.std.specs.Prelude.{slice_get, nat_le, is_ok}
use Rattle.std.proofs.lemmas.Option.{none-some}
use Rattle.terms.specs.declared.sides.Side.{Side}
use Rattle.terms.specs.declared.sides.Side.TheVariants.{A}
use Rattle.terms.specs.Sides.{other}
use Rattle.scenario.specs.declared.events.Event.{Event}
use Rattle.channel.specs.declared.messages.Message.{Message}
use Rattle.updates.specs.declared.messages.PeerStep.TheVariants.{Update as Updated, CommitmentSigned}
use Rattle.channel.specs.declared.messages.Message.TheVariants.{Step as StepMessage, RevokeAndAck}
use Rattle.channel.specs.Tokens.{peer_tokens}
use Rattle.tx.specs.Fields.{Transaction}
use Rattle.book.specs.declared.calls.Call.{Call}
use Rattle.book.specs.declared.calls.Call.TheVariants as calls
use Rattle.book.specs.declared.calls.Entry.{Entry}
use Rattle.book.specs.declared.errors.StepError.{StepError}
use Rattle.book.specs.Books.{at_index}
use Rattle.book.specs.Accepted.{adds_call}
use Rattle.book.specs.Replies.{stepped, revoked, reply_of, history_after, is_accepted, if_so}
use Rattle.chain.specs.Blocks.{Contents, height_of}
use Rattle.world.specs.declared.errors.EventError.{EventError}
use Rattle.world.specs.declared.errors.EventError.TheVariants.{NoSuchChannel}
use Rattle.world.specs.declared.limits.TheConstants.{SEAT}
use Rattle.world.specs.declared.outcomes.Outcome.{Outcome}
use Rattle.world.specs.Worlds.{World, Line, Node, node_of, with_node, with_nodes, inboxes, answer_to, after_call, received_by}
use Rattle.book.specs.Acts.{messages_in, call_of}
use Rattle.world.specs.Refusing.{refusal_in, sent_by, oldest_of, oldest_in, delivery_refusal, delivered, answered}
use Rattle.world.specs.Keeping.{IsKept}
use Rattle.world.specs.Releasing.{with_taken, without_taken, IsReleased}
use Rattle.world.specs.Pairing.{AgreeBy}
use Rattle.world.specs.Looking.{Looks, back_to}
use Rattle.world.specs.Steps.{own_call, call_refusal, world_after_call as after_calling, receipt_refusal, world_after_delivery as after_receipt, refusal_of, Happens, updates, signs, receives, keeps, broadcasts, broadcasts_htlc, mines, looks, takes, releases, reorganises, closes, WorldSteps, happens, refuses, runs_out}
use Rattle.world.specs.Theorem.{StepsKeep}
use Rattle.world.proofs.Inboxes.{inboxes_sent, inboxes_received, got_of_map, inboxes_read, inboxes_back}
use Rattle.world.proofs.Calls.{received, filed, released_by, shut}
use Rattle.world.proofs.Fillings.{released_after}
use Rattle.world.proofs.Growing.{are_later}
use Rattle.world.proofs.Sourced.{sources_after}
use Rattle.world.proofs.Sides.{sides_after}
use Rattle.world.proofs.Fitting.{AreFitting, fitting_world, history_of, agree_from, both_fit, one_fits, as_before, Sends, own_sends, sign_sends}

-- ---- refusals

-- if no test refuses, the later tests do not refuse
pub none_if : {E : Type 0} (b : Bool) (e : E) (later : Option E) → if_so b e later ≡ None → later ≡ None
none_if true e later none = absurd (none-some _ (sym none))
none_if false e later none = none

stepped_is : (r : Result (List Message) StepError) → refusal_in (stepped r) ≡ None → is_ok r ≡ true
stepped_is (Ok ms) none = refl
stepped_is (Err e) none = absurd (none-some _ (sym none))

revoked_is : (r : Result ℕ StepError) → refusal_in (revoked r) ≡ None → is_ok r ≡ true
revoked_is (Ok n) none = refl
revoked_is (Err e) none = absurd (none-some _ (sym none))

-- a message that nothing refuses is taken
pub is_taken : (m : Message) (c : ℕ) (history : List Entry) → refusal_in (reply_of peer_tokens history (call_of c m)) ≡ None → is_accepted (reply_of peer_tokens history (call_of c m)) ≡ true
is_taken (StepMessage (Updated u)) c history none = stepped_is _ none
is_taken (StepMessage (CommitmentSigned tokens)) c history none = stepped_is _ none
is_taken (RevokeAndAck revocation) c history none = revoked_is _ none

-- ---- calls

calling : (s : Side) (c : ℕ) (call : Call) (w : World) → Sends c call → AreFitting w.a w.b → call_refusal s c call w ≡ None → AreFitting (after_calling s c call w).a (after_calling s c call w).b
calling s c call w sends fit none =
    let me = node_of s w in
    let peer = node_of (other s) w in
    let call_left = none_if (nat_le _ c) NoSuchChannel (refusal_in (answer_to me call)) none in
    both_fit s (after_call call me) (sent_by c call me peer) w (adds_call SEAT call (history_of s w fit)) (history_of (other s) w fit)
    (subst (AgreeBy s (history_after peer_tokens me.history SEAT call) peer.history (inboxes me)) (sym (inboxes_sent c (messages_in (answer_to me call)) peer))
    (sends s me.history peer.history (inboxes me) (inboxes peer) (agree_from s w fit) call_left))

-- ---- deliveries

abbrev Fit : Side → ℕ → World → Result Message EventError → Type 0
Fit s c w o =
    let after : World = with_nodes s (delivered c o (node_of s w)) (answered c o (node_of s w) (node_of (other s) w)) w in
    AreFitting after.a after.b

taking : (s : Side) (c : ℕ) (w : World) (m : Message) (rest : List Message) → AreFitting w.a w.b → slice_get (inboxes (node_of s w)) c ≡ Some (m ∷ rest)
    → refusal_in (answer_to (node_of s w) (call_of c m)) ≡ None → Fit s c w (Ok m)
taking s c w m rest fit queue none =
    let me = node_of s w in
    let peer = node_of (other s) w in
    let call = call_of c m in
    let mine = history_after peer_tokens me.history SEAT call in
    both_fit s (received_by c (after_call call me)) (sent_by c call me peer) w (adds_call SEAT call (history_of s w fit)) (history_of (other s) w fit)
    (subst (λ qs. AgreeBy s mine peer.history qs (inboxes (sent_by c call me peer))) (sym (inboxes_received c (after_call call me)))
    (subst (AgreeBy s mine peer.history (at_index (drop 1) c (inboxes me))) (sym (inboxes_sent c (messages_in (answer_to me call)) peer))
    (received s me.history peer.history (inboxes me) (inboxes peer) SEAT c m rest (agree_from s w fit) queue (is_taken m c me.history none))))

in_queue : (s : Side) (c : ℕ) (w : World) (queue : List Message) → AreFitting w.a w.b → slice_get (inboxes (node_of s w)) c ≡ Some queue
    → delivery_refusal c (oldest_of queue) (node_of s w) (node_of (other s) w) ≡ None → Fit s c w (oldest_of queue)
in_queue s c w [] fit there none = absurd (none-some _ (sym none))
in_queue s c w (m ∷ rest) fit there none = taking s c w m rest fit there (none_if (nat_le _ c) NoSuchChannel (refusal_in (answer_to (node_of s w) (call_of c m))) none)

in_line : (s : Side) (c : ℕ) (w : World) (line : Option Line) → AreFitting w.a w.b → slice_get (node_of s w).lines c ≡ line
    → delivery_refusal c (oldest_in line) (node_of s w) (node_of (other s) w) ≡ None → Fit s c w (oldest_in line)
in_line s c w None fit there none = absurd (none-some _ (sym none))
in_line s c w (Some line) fit there none = in_queue s c w line.inbox fit (got_of_map (λ l. l.inbox) c (node_of s w).lines line there) none

receiving : (s : Side) (c : ℕ) (w : World) → AreFitting w.a w.b → receipt_refusal s c w ≡ None → AreFitting (after_receipt s c w).a (after_receipt s c w).b
receiving s c w fit none = in_line s c w (slice_get (node_of s w).lines c) fit refl none

-- ---- kept penalties, released claims, and closed channels

keeping : (s : Side) (c n : ℕ) (after : Node) (w : World) → AreFitting w.a w.b → IsKept (node_of s w) c n after → AreFitting (with_node s after w).a (with_node s after w).b
keeping s c n after w fit kept =
    let me = node_of s w in
    let peer = node_of (other s) w in
    let call : Call = calls.Keep c n kept.claims in
    subst (λ (m : Node). AreFitting (with_node s m w).a (with_node s m w).b) (sym kept.after)
    (one_fits s (after_call call me) w fit (adds_call SEAT call (history_of s w fit))
    (filed s me.history peer.history (inboxes me) (inboxes peer) SEAT c n kept.claims (agree_from s w fit) (ap is_accepted kept.answer)))

releasing : (s : Side) (k : ℕ) (after : Node) (t : Transaction) (w : World) → AreFitting w.a w.b → IsReleased k (node_of s w) after t → AreFitting (with_node s after w).a (with_node s after w).b
releasing s k after t w fit done =
    let me = node_of s w in
    let peer = node_of (other s) w in
    let call : Call = calls.Release done.channel done.batch in
    subst (λ (m : Node). AreFitting (with_node s m w).a (with_node s m w).b) (sym done.after)
    (one_fits s (without_taken k (after_call call me)) w fit (adds_call SEAT call (history_of s w fit))
    (released_by s me.history peer.history (inboxes me) (inboxes peer) SEAT done.channel done.batch (agree_from s w fit) (ap is_accepted done.answer)))

closing : (s : Side) (c : ℕ) (w : World) → AreFitting w.a w.b → AreFitting (with_node s (after_call (calls.Close c) (node_of s w)) w).a (with_node s (after_call (calls.Close c) (node_of s w)) w).b
closing s c w fit =
    let me = node_of s w in
    let peer = node_of (other s) w in
    one_fits s (after_call (calls.Close c) me) w fit (adds_call SEAT (calls.Close c) (history_of s w fit))
    (shut s me.history peer.history (inboxes me) (inboxes peer) SEAT c (agree_from s w fit))

-- ---- blocks that are read, and sides that go back

looking : (s : Side) (blocks : List Contents) (after : Node) (count : ℕ) (w : World) → AreFitting w.a w.b → Looks (node_of s w) blocks after count
    → AreFitting (with_node s after w).a (with_node s after w).b
looking s blocks after count w fit l = as_before s after w fit (ap (λ n. n.history) l.after) (ap inboxes l.after ∙ inboxes_read (height_of blocks) l.found (node_of s w))

going_back : (height : ℕ) (a b : Node) → AreFitting a b → AreFitting (back_to height a) (back_to height b)
going_back height a b fit = record {
  a_called = fit.a_called;
  b_called = fit.b_called;
  agree = subst (AgreeBy A a.history b.history (inboxes (back_to height a))) (sym (inboxes_back height b))
      (subst (λ qs. AgreeBy A a.history b.history qs (inboxes b)) (sym (inboxes_back height a)) fit.agree);
}

-- ---- each event

happening : (w v : World) (e : Event) (o : Outcome) → AreFitting w.a w.b → refusal_of w e ≡ None → Happens w e v o → AreFitting v.a v.b
happening w v e o fit none (updates {s} {c} {update}) = calling s c (own_call c update) w (own_sends c update) fit none
happening w v e o fit none (signs {s} {c}) = calling s c (calls.Sign c) w (sign_sends c) fit none
happening w v e o fit none (receives {s} {c}) = receiving s c w fit none
happening w v e o fit none (keeps {s} {c} {n} {after} kept) = keeping s c n after w fit kept
happening w v e o fit none (broadcasts is) = fit
happening w v e o fit none (broadcasts_htlc is) = fit
happening w v e o fit none (mines is) = fit
happening w v e o fit none (looks {s} {after} {count} l) = looking s w.chain.blocks after count w fit l
happening w v e o fit none (takes {s} {k}) = as_before s (with_taken k (node_of s w)) w fit refl refl
happening w v e o fit none (releases {s} {k} {after} {t} done) = releasing s k after t w fit done
happening w v e o fit none (reorganises {depth} {forgotten} {m} is) = going_back (height_of w.chain.blocks - depth) w.a w.b fit
happening w v e o fit none (closes {s} {c} {t} is) = closing s c w fit

pub fitting_after : (w v : World) (e : Event) (o : Outcome) → AreFitting w.a w.b → WorldSteps w e v o → AreFitting v.a v.b
fitting_after w v e o fit (happens none h) = happening w v e o fit none h
fitting_after w v e o fit (refuses some) = fit
fitting_after w v e o fit runs_out = fit

pub steps_keep : StepsKeep
steps_keep w v e o is step a b tested =
    let fit = fitting_after w v e o (fitting_world w is) step in
    let released = released_after w v e o is.released step in
    let sides = sides_after w v e o (record { of_a = is.a_side; of_b = is.b_side }) step in
    record {
      a = a;
      b = b;
      a_called = fit.a_called;
      b_called = fit.b_called;
      agree = fit.agree;
      released = released;
      a_side = sides.of_a;
      b_side = sides.of_b;
      sources = sources_after w v e o (are_later w v e o step) released is.sources step;
      tested = tested;
    }
