-- What holds in a world at a moment.
use Rattle.std.proofs.Common.{◌≡◌, ◌⊎◌, ◌≤◌, ℕ, Bool, true, false, List, [], ◌∷◌, length, Option, Some, None, Ok, Err, refl, sym, ap, ◌∙◌, inl, inr, ⊎_elim, subst}
use Rattle.std.specs.Prelude.{slice_get}
use Rattle.std.proofs.lemmas.Option.{none-some, same_Some}
use Rattle.terms.specs.declared.sides.Side.{Side}
use Rattle.terms.specs.declared.sides.Side.TheVariants.{A, B}
use Rattle.terms.specs.Sides.{other}
use Rattle.penalty.specs.declared.states.RevokedState.{RevokedState}
use Rattle.chain.specs.Blocks.{Contents}
use Rattle.safety.specs.Fates.{NothingEscapesAbove}
use Rattle.channel.specs.declared.messages.Message.{Message}
use Rattle.channel.specs.Tokens.{peer_tokens}
use Rattle.channel.specs.Recording.{SidesNumber}
use Rattle.channel.specs.Agreeing.{PeersAgree}
use Rattle.book.specs.Books.{ChannelBook, replay}
use Rattle.book.specs.Accepted.{all_accepted, AcceptedMeans}
use Rattle.book.specs.Guarding.{AcceptedIsGuarded, KeptAreExact}
use Rattle.book.specs.Releasing.{ReleasesFit}
use Rattle.book.specs.Closing.{ClosedStaysNewest}
use Rattle.book.specs.Replies.{Reply, opened, stepped, signed, revoked, kept, released, closed, is_accepted, if_so}
use Rattle.world.specs.declared.errors.EventError.{EventError}
use Rattle.world.specs.declared.errors.EventError.TheVariants.{NoSuchChannel, NoMessage, ChannelClosed}
use Rattle.world.specs.Worlds.{World, Line, Node, IsNode, node_of, channel_of, inboxes, answer_to}
use Rattle.book.specs.Acts.{call_of}
use Rattle.world.specs.Refusing.{refusal_in, oldest_of, oldest_in, delivery_refusal}
use Rattle.world.specs.Pairing.{IsShutOut, DeliveriesAreTaken}
use Rattle.safety.specs.Enforcement.{ClaimsSpend}
use Rattle.world.specs.Theorem.{ShutsOut, IsWorld, WorldsHold}
use Rattle.world.proofs.Ends.{ends_at, as_many}
use Rattle.world.proofs.Whole.{are_whole}
use Rattle.world.proofs.Inboxes.{got_of_map}
use Rattle.world.proofs.Fitting.{fitting_world, history_of, agree_from}
use Rattle.world.proofs.Calls.{shut_is}
use Rattle.world.proofs.Closes.{can_close}
use Rattle.world.proofs.Told.{told_below}
use Rattle.world.proofs.TwoEnds.{pair_at, Laws}
use Rattle.world.proofs.FromRecords.{AllOfThemFit}
use Rattle.world.proofs.Takes.{outputs_are_taken}

-- an accepted reply is not a refusal
unrefused : (r : Reply) → is_accepted r ≡ true → refusal_in r ≡ None
unrefused (opened r) ok = refl
unrefused (stepped (Ok x)) ok = refl
unrefused (stepped (Err e)) ok = absurd cc
unrefused (signed (Ok x)) ok = refl
unrefused (signed (Err e)) ok = absurd cc
unrefused (revoked (Ok x)) ok = refl
unrefused (revoked (Err e)) ok = absurd cc
unrefused (kept (Ok x)) ok = refl
unrefused (kept (Err e)) ok = absurd cc
unrefused (released (Ok x)) ok = refl
unrefused (released (Err e)) ok = absurd cc
unrefused (closed (Ok x)) ok = refl
unrefused (closed (Err e)) ok = absurd cc

-- ---- deliveries

-- the oldest message on its way to a side is taken, or the side closed the channel to it
abbrev pub TakesOf : ℕ → Node → Type 0
TakesOf c me = (m : Message) (rest : List Message) → slice_get (inboxes me) c ≡ Some (m ∷ rest) → (is_accepted (answer_to me (call_of c m)) ≡ true) ⊎ IsShutOut (channel_of me c) m

-- why a delivery is refused
abbrev IsReason : ℕ → Node → EventError → Type 0
IsReason c me r = (r ≡ NoSuchChannel) ⊎ ((r ≡ NoMessage) ⊎ ((r ≡ ChannelClosed) × ShutsOut me c))

past_is : (c : ℕ) (me : Node) (past : Bool) (first : Option EventError) (r : EventError) → first ≡ None → if_so past NoSuchChannel first ≡ Some r → IsReason c me r
past_is c me true first r none is = inl (sym (same_Some NoSuchChannel r is))
past_is c me false first r none is = absurd (none-some r (sym none ∙ is))

closed_is : (c : ℕ) (me : Node) (past : Bool) (first : Option EventError) (r : EventError) → first ≡ Some ChannelClosed → ShutsOut me c → if_so past NoSuchChannel first ≡ Some r → IsReason c me r
closed_is c me true first r some shut is = inl (sym (same_Some NoSuchChannel r is))
closed_is c me false first r some shut is = inr (inr (sym (same_Some ChannelClosed r (sym some ∙ is)), shut))

queue_is : (c : ℕ) (me peer : Node) (queue : List Message) (r : EventError) → TakesOf c me → slice_get (inboxes me) c ≡ Some queue → delivery_refusal c (oldest_of queue) me peer ≡ Some r → IsReason c me r
queue_is c me peer [] r takes there is = inr (inl (sym (same_Some NoMessage r is)))
queue_is c me peer (m ∷ rest) r takes there is =
    let first = refusal_in (answer_to me (call_of c m)) in
    ⊎_elim {C = IsReason c me r} (λ (ok : is_accepted (answer_to me (call_of c m)) ≡ true). past_is c me _ first r (unrefused (answer_to me (call_of c m)) ok) is)
    (λ (s : IsShutOut (channel_of me c) m). closed_is c me _ first r (ap refusal_in (shut_is m c (replay me.history) s)) (record { m = m; rest = rest; oldest = there; shut = s }) is) (takes m rest there)

line_is : (c : ℕ) (me peer : Node) (line : Option Line) (r : EventError) → TakesOf c me → slice_get me.lines c ≡ line → delivery_refusal c (oldest_in line) me peer ≡ Some r → IsReason c me r
line_is c me peer None r takes there is = inl (sym (same_Some NoSuchChannel r is))
line_is c me peer (Some line) r takes there is = queue_is c me peer line.inbox r takes (got_of_map (λ l. l.inbox) c me.lines line there) is

-- ---- a moment

nodes_of : (w : World) → IsWorld w → (s : Side) → IsNode (node_of s w)
nodes_of w is A = is.a
nodes_of w is B = is.b

-- a channel that a side closed
closed_so : ClosedStaysNewest → (w : World) → IsWorld w → (s : Side) → all_accepted peer_tokens (node_of s w).history ≡ true → (c n : ℕ) (x y : ChannelBook) → channel_of (node_of s w) c ≡ Some x
    → channel_of (node_of (other s) w) c ≡ Some y → x.closed ≡ Some n → (n ≡ x.state.number) × (length y.state.secrets ≤ n)
closed_so stays w is s accepted c n x y here there by =
    let me = node_of s w in
    let peer = node_of (other s) w in
    let newest : n ≡ x.state.number = stays peer_tokens me.history c n x accepted here by in
    let at = pair_at s c (replay me.history) (replay peer.history) (inboxes me) (inboxes peer) x y (agree_from s w (fitting_world w is)) here there in
    (newest, subst (λ k. length y.state.secrets ≤ k) (sym newest) (told_below s x.state y.state at.to_me at.to_peer at.paired))

pub worlds_hold : AcceptedMeans → AcceptedIsGuarded → KeptAreExact → ReleasesFit → ClaimsSpend → ((blocks : List Contents) (height : ℕ) (state : RevokedState) → NothingEscapesAbove blocks height state) → PeersAgree
    → SidesNumber → Laws → DeliveriesAreTaken → ClosedStaysNewest → WorldsHold
worlds_hold means gate exact releasing opening escapes peers numbers laws deliveries stays w is =
    let fit = fitting_world w is in
    let accepted : (s : Side) → all_accepted peer_tokens (node_of s w).history ≡ true = λ s. (means.accepted_exactly peer_tokens (node_of s w).history).0 (history_of s w fit) in
    let takes : (s : Side) (c : ℕ) → TakesOf c (node_of s w)
    = λ s c m rest queue. deliveries s (node_of s w).history (node_of (other s) w).history (inboxes (node_of s w)) (inboxes (node_of (other s) w)) c m rest (agree_from s w fit) queue in
    let fits : AllOfThemFit w = λ s seat c batch there. releasing peer_tokens (node_of s w).history seat c batch (accepted s) (nodes_of w is s).claims_are_whole there in
    record {
      accepted = accepted;
      guarded = λ s. gate peer_tokens (node_of s w).history (accepted s);
      kept = λ s seat c n claims there. exact peer_tokens (node_of s w).history seat c n claims (accepted s) (nodes_of w is s).claims_are_whole there;
      claims = λ s. are_whole (node_of s w) (nodes_of w is s);
      opens = λ x t input whole due. opening w.chain.blocks _ x t input whole due;
      released = is.released;
      fits = fits;
      others = λ before state. escapes (before ∷ w.chain.blocks) _ state;
      taken = outputs_are_taken laws w is fits;
      as_many = as_many A (replay w.a.history) (replay w.b.history) (inboxes w.a) (inboxes w.b) is.agree;
      agree = λ c x y here there. ends_at peers numbers c (replay w.a.history) (replay w.b.history) (inboxes w.a) (inboxes w.b) x y is.agree here there;
      closes = can_close laws w is;
      closed = λ s c n x y here there by. closed_so stays w is s (accepted s) c n x y here there by;
      takes = takes;
      delivers = λ s c r refused. line_is c (node_of s w) (node_of (other s) w) (slice_get (node_of s w).lines c) r (takes s c) refl refused;
    }
