-- Two sides that fit: their histories are those of calls, and their books
-- hold the two ends of the same channels, with the messages on their way.
use Rattle.std.proofs.Common.{◌≡◌, ℕ, List, ◌++◌, None, Result, Ok, Err, refl, sym, ap, subst}
use Rattle.std.proofs.lemmas.Option.{none-some}
use Rattle.terms.specs.declared.sides.Side.{Side}
use Rattle.terms.specs.declared.sides.Side.TheVariants.{A, B}
use Rattle.terms.specs.Sides.{other}
use Rattle.updates.specs.declared.changes.OwnUpdate.{OwnUpdate}
use Rattle.channel.specs.declared.messages.Message.{Message}
use Rattle.channel.specs.Tokens.{peer_tokens}
use Rattle.book.specs.declared.calls.Call.{Call}
use Rattle.book.specs.declared.calls.Call.TheVariants as calls
use Rattle.book.specs.declared.calls.Step.TheVariants.{Own}
use Rattle.book.specs.declared.calls.Entry.{Entry}
use Rattle.book.specs.declared.errors.StepError.{StepError}
use Rattle.book.specs.declared.errors.SignError.{SignError}
use Rattle.book.specs.Books.{at_index, replay}
use Rattle.book.specs.Accepted.{IsHistory}
use Rattle.book.specs.Replies.{stepped, signed, reply_of, history_after}
use Rattle.world.specs.declared.limits.TheConstants.{SEAT}
use Rattle.world.specs.Worlds.{World, Node, node_of, with_node, with_nodes, inboxes}
use Rattle.book.specs.Acts.{messages_in}
use Rattle.world.specs.Refusing.{refusal_in}
use Rattle.world.specs.Pairing.{AgreeBy}
use Rattle.world.specs.Theorem.{IsWorld}
use Rattle.world.proofs.Turns.{seen_by_peer}
use Rattle.world.proofs.Calls.{made, signed_once}

pub record AreFitting (a b : Node) : Type 0 where
  pub a_called : IsHistory peer_tokens a.history
  pub b_called : IsHistory peer_tokens b.history
  pub agree : AgreeBy A a.history b.history (inboxes a) (inboxes b)

pub fitting_world : (w : World) → IsWorld w → AreFitting w.a w.b
fitting_world w is = record { a_called = is.a_called; b_called = is.b_called; agree = is.agree }

-- ---- from either side

abbrev pub AgreeFrom : Side → Node → Node → Type 0
AgreeFrom s me peer = AgreeBy s me.history peer.history (inboxes me) (inboxes peer)

pub history_of : (s : Side) (w : World) → AreFitting w.a w.b → IsHistory peer_tokens (node_of s w).history
history_of A w fit = fit.a_called
history_of B w fit = fit.b_called

pub agree_from : (s : Side) (w : World) → AreFitting w.a w.b → AgreeFrom s (node_of s w) (node_of (other s) w)
agree_from A w fit = fit.agree
agree_from B w fit = seen_by_peer A (replay w.a.history) (replay w.b.history) (inboxes w.a) (inboxes w.b) fit.agree

-- a side and its peer changed
pub both_fit : (s : Side) (n peer : Node) (w : World) → IsHistory peer_tokens n.history → IsHistory peer_tokens peer.history → AgreeFrom s n peer
    → AreFitting (with_nodes s n peer w).a (with_nodes s n peer w).b
both_fit A n peer w mine peers agree = record { a_called = mine; b_called = peers; agree = agree }
both_fit B n peer w mine peers agree =
    record { a_called = peers; b_called = mine; agree = seen_by_peer B (replay n.history) (replay peer.history) (inboxes n) (inboxes peer) agree }

-- one side changed
pub one_fits : (s : Side) (n : Node) (w : World) → AreFitting w.a w.b → IsHistory peer_tokens n.history → AgreeFrom s n (node_of (other s) w)
    → AreFitting (with_node s n w).a (with_node s n w).b
one_fits A n w fit mine agree = record { a_called = mine; b_called = fit.b_called; agree = agree }
one_fits B n w fit mine agree =
    record { a_called = fit.a_called; b_called = mine; agree = seen_by_peer B (replay n.history) (replay w.a.history) (inboxes n) (inboxes w.a) agree }

-- one side changed, but not its history and the messages on their way to it
pub as_before : (s : Side) (n : Node) (w : World) → AreFitting w.a w.b → n.history ≡ (node_of s w).history → inboxes n ≡ inboxes (node_of s w) → AreFitting (with_node s n w).a (with_node s n w).b
as_before s n w fit history messages =
    let me = node_of s w in
    let peer = node_of (other s) w in
    one_fits s n w fit (subst (IsHistory peer_tokens) (sym history) (history_of s w fit))
    (subst (λ h. AgreeBy s h peer.history (inboxes n) (inboxes peer)) (sym history)
    (subst (λ qs. AgreeBy s me.history peer.history qs (inboxes peer)) (sym messages) (agree_from s w fit)))

-- ---- calls whose message goes to the peer

abbrev pub Sends : ℕ → Call → Type 0
Sends c call = (s : Side) (mine peers : List Entry) (to_me to_peer : List (List Message)) → AgreeBy s mine peers to_me to_peer → refusal_in (reply_of peer_tokens mine call) ≡ None
    → AgreeBy s (history_after peer_tokens mine SEAT call) peers to_me (at_index (λ q. q ++ messages_in (reply_of peer_tokens mine call)) c to_peer)

pub own_sends : (c : ℕ) (u : OwnUpdate) → Sends c (calls.Step c (Own u))
own_sends c u s mine peers to_me to_peer agree none = by _ refl none
  where
    by : (r : Result (List Message) StepError) → reply_of peer_tokens mine (calls.Step c (Own u)) ≡ stepped r → refusal_in (stepped r) ≡ None
        → AgreeBy s (history_after peer_tokens mine SEAT (calls.Step c (Own u))) peers to_me (at_index (λ q. q ++ messages_in (reply_of peer_tokens mine (calls.Step c (Own u)))) c to_peer)
    by (Ok messages) is none =
        subst (λ sent. AgreeBy s (history_after peer_tokens mine SEAT (calls.Step c (Own u))) peers to_me (at_index (λ q. q ++ sent) c to_peer)) (sym (ap messages_in is))
        (made s mine peers to_me to_peer SEAT c u messages agree is)
    by (Err e) is none = absurd (none-some _ (sym none))

pub sign_sends : (c : ℕ) → Sends c (calls.Sign c)
sign_sends c s mine peers to_me to_peer agree none = by _ refl none
  where
    by : (r : Result Message SignError) → reply_of peer_tokens mine (calls.Sign c) ≡ signed r → refusal_in (signed r) ≡ None
        → AgreeBy s (history_after peer_tokens mine SEAT (calls.Sign c)) peers to_me (at_index (λ q. q ++ messages_in (reply_of peer_tokens mine (calls.Sign c))) c to_peer)
    by (Ok m) is none =
        subst (λ sent. AgreeBy s (history_after peer_tokens mine SEAT (calls.Sign c)) peers to_me (at_index (λ q. q ++ sent) c to_peer)) (sym (ap messages_in is))
        (signed_once s mine peers to_me to_peer SEAT c m agree is)
    by (Err e) is none = absurd (none-some _ (sym none))
