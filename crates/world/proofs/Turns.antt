-- A step of one side keeps the two books paired.
use Rattle.std.proofs.Common.{◌≡◌, ℕ, zero, suc, List, [], ◌∷◌, ◌++◌, Some, refl, sym, subst}
use Rattle.std.specs.Prelude.{slice_get}
use Rattle.std.proofs.lemmas.Option.{none-some, same_Some}
use Rattle.terms.specs.declared.sides.Side.{Side}
use Rattle.terms.specs.declared.sides.Side.TheVariants.{A, B}
use Rattle.terms.specs.Sides.{other}
use Rattle.channel.specs.declared.messages.Message.{Message}
use Rattle.channel.specs.Tokens.{peer_tokens}
use Rattle.channel.specs.States.{State}
use Rattle.channel.specs.Peers.{Acts, Steps, by_a, by_b, then}
use Rattle.channel.specs.Playing.{placed}
use Rattle.channel.specs.Agreeing.{IsPaired}
use Rattle.book.specs.Books.{ChannelBook, Channels, at_index, with_state}
use Rattle.world.specs.Pairing.{ArePaired}

-- one channel
steps_on : (side : Side) (me peer new : State) (p q sent rest : List Message) → Acts peer_tokens me p new sent rest → Steps peer_tokens (placed side me peer p q) (placed side new peer rest (q ++ sent))
steps_on A me peer new p q sent rest acts = by_a acts
steps_on B me peer new p q sent rest acts = by_b acts

pub paired_after : (side : Side) (me peer new : State) (p q sent rest : List Message) → IsPaired peer_tokens (placed side me peer p q) → Acts peer_tokens me p new sent rest
    → IsPaired peer_tokens (placed side new peer rest (q ++ sent))
paired_after side me peer new p q sent rest paired acts = record {
  terms = paired.terms;
  seed_a = paired.seed_a;
  seed_b = paired.seed_b;
  reached = then paired.reached (steps_on side me peer new p q sent rest acts);
}

-- the channel at an index acts, and the others do not change
pub acted_at : (side : Side) (f : State → State) (g : List Message → List Message) (sent : List Message) (c : ℕ) (xs ys : Channels) (ps qs : List (List Message)) (x : ChannelBook) (p : List Message)
    → slice_get xs c ≡ Some x → slice_get ps c ≡ Some p → Acts peer_tokens x.state p (f x.state) sent (g p) → ArePaired side xs ys ps qs
    → ArePaired side (at_index (with_state f) c xs) ys (at_index g c ps) (at_index (λ q. q ++ sent) c qs)
acted_at side f g sent c [] ys ps qs x p here queue acts paired = absurd (none-some x here)
acted_at side f g sent zero (z ∷ xs) (y ∷ ys) (r ∷ ps) (q ∷ qs) x p here queue acts paired =
    let same : z ≡ x = same_Some z x here in
    let same_queue : r ≡ p = same_Some r p queue in
    let act : Acts peer_tokens z.state r (f z.state) sent (g r) = rw (same, same_queue) acts in
    (paired_after side z.state y.state (f z.state) r q sent (g r) paired.0 act, paired.1)
acted_at side f g sent (suc c) (z ∷ xs) (y ∷ ys) (r ∷ ps) (q ∷ qs) x p here queue acts paired = (paired.0, acted_at side f g sent c xs ys ps qs x p here queue acts paired.1)
acted_at side f g sent c (z ∷ xs) [] ps qs x p here queue acts paired = absurd paired
acted_at side f g sent c (z ∷ xs) (y ∷ ys) [] qs x p here queue acts paired = absurd paired
acted_at side f g sent c (z ∷ xs) (y ∷ ys) (r ∷ ps) [] x p here queue acts paired = absurd paired

-- a change that does not touch the states
pub unmoved : (side : Side) (f : ChannelBook → ChannelBook) → ((x : ChannelBook) → (f x).state ≡ x.state) → (c : ℕ) (xs ys : Channels) (ps qs : List (List Message)) → ArePaired side xs ys ps qs
    → ArePaired side (at_index f c xs) ys ps qs
unmoved side f same c [] ys ps qs paired = paired
unmoved side f same zero (x ∷ xs) (y ∷ ys) (p ∷ ps) (q ∷ qs) paired = (subst (λ s. IsPaired peer_tokens (placed side s y.state p q)) (sym (same x)) paired.0, paired.1)
unmoved side f same (suc c) (x ∷ xs) (y ∷ ys) (p ∷ ps) (q ∷ qs) paired = (paired.0, unmoved side f same c xs ys ps qs paired.1)
unmoved side f same c (x ∷ xs) [] ps qs paired = absurd paired
unmoved side f same c (x ∷ xs) (y ∷ ys) [] qs paired = absurd paired
unmoved side f same c (x ∷ xs) (y ∷ ys) (p ∷ ps) [] paired = absurd paired

-- seen from the other side
turned : (side : Side) (x y : State) (p q : List Message) → placed side x y p q ≡ placed (other side) y x q p
turned A x y p q = refl
turned B x y p q = refl

pub seen_by_peer : (side : Side) (xs ys : Channels) (ps qs : List (List Message)) → ArePaired side xs ys ps qs → ArePaired (other side) ys xs qs ps
seen_by_peer side [] [] [] [] paired = paired
seen_by_peer side (x ∷ xs) (y ∷ ys) (p ∷ ps) (q ∷ qs) paired = (subst (IsPaired peer_tokens) (turned side x.state y.state p q) paired.0, seen_by_peer side xs ys ps qs paired.1)
seen_by_peer side [] (y ∷ ys) ps qs paired = absurd paired
seen_by_peer side [] [] (p ∷ ps) qs paired = absurd paired
seen_by_peer side [] [] [] (q ∷ qs) paired = absurd paired
seen_by_peer side (x ∷ xs) [] ps qs paired = absurd paired
seen_by_peer side (x ∷ xs) (y ∷ ys) [] qs paired = absurd paired
seen_by_peer side (x ∷ xs) (y ∷ ys) (p ∷ ps) [] paired = absurd paired

-- one more channel
pub opened_more : (side : Side) (x y : ChannelBook) (xs ys : Channels) (ps qs : List (List Message)) → IsPaired peer_tokens (placed side x.state y.state [] []) → ArePaired side xs ys ps qs
    → ArePaired side (xs ++ x ∷ []) (ys ++ y ∷ []) (ps ++ [] ∷ []) (qs ++ [] ∷ [])
opened_more side x y [] [] [] [] one paired = (one, paired)
opened_more side x y (z ∷ xs) (w ∷ ys) (p ∷ ps) (q ∷ qs) one paired = (paired.0, opened_more side x y xs ys ps qs one paired.1)
opened_more side x y [] (w ∷ ys) ps qs one paired = absurd paired
opened_more side x y [] [] (p ∷ ps) qs one paired = absurd paired
opened_more side x y [] [] [] (q ∷ qs) one paired = absurd paired
opened_more side x y (z ∷ xs) [] ps qs one paired = absurd paired
opened_more side x y (z ∷ xs) (w ∷ ys) [] qs one paired = absurd paired
opened_more side x y (z ∷ xs) (w ∷ ys) (p ∷ ps) [] one paired = absurd paired

-- the channel at an index, with the messages on their way to it
pub record IsThere (side : Side) (x : ChannelBook) (p : List Message) (ys : Channels) (qs : List (List Message)) (c : ℕ) : Type 0 where
  pub peer : ChannelBook
  pub to_peer : List Message
  pub peer_is : slice_get ys c ≡ Some peer
  pub to_peer_is : slice_get qs c ≡ Some to_peer
  pub paired : IsPaired peer_tokens (placed side x.state peer.state p to_peer)
