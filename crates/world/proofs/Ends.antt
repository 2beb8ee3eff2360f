-- The two sides of a world hold the two ends of each channel, which agree.
use Rattle.std.proofs.Common.{◌≡◌, ℕ, zero, suc, List, [], ◌∷◌, length, Some, refl, ap, subst}
use Rattle.std.specs.Prelude.{slice_get}
use Rattle.std.proofs.lemmas.Option.{none-some, same_Some}
use Rattle.terms.specs.declared.sides.Side.{Side}
use Rattle.terms.specs.declared.sides.Side.TheVariants.{A, B}
use Rattle.terms.specs.declared.agreement.Terms.{Terms}
use Rattle.channel.specs.declared.messages.Message.{Message}
use Rattle.channel.specs.Points.{point_at}
use Rattle.channel.specs.Tokens.{peer_tokens}
use Rattle.channel.specs.States.{Signing, State}
use Rattle.channel.specs.Peers.{World as Pair, Acts, updates, signs, receives, Steps, by_a, by_b, IsReached, at_opening, then, IsLived, starts, updated_once, signed_once, received_once}
use Rattle.channel.specs.Playing.{placed}
use Rattle.channel.specs.Recording.{SidesNumber}
use Rattle.channel.specs.Agreeing.{PeersAgree, IsPaired}
use Rattle.book.specs.Books.{ChannelBook, Channels}
use Rattle.world.specs.Pairing.{ArePaired, AreEnds}

-- ---- both states of a pair are ones that calls and messages lead to

lived_act : (tokens_of : Signing) (me new : State) (queue sent rest : List Message) → Acts tokens_of me queue new sent rest → IsLived tokens_of me → IsLived tokens_of new
lived_act tokens_of me new queue sent rest (updates u none) l = updated_once u none l
lived_act tokens_of me new queue sent rest (signs none) l = signed_once none l
lived_act tokens_of me new queue sent rest (receives m left is none) l = received_once m none l

lived_step : (tokens_of : Signing) (w v : Pair) → Steps tokens_of w v → IsLived tokens_of w.a × IsLived tokens_of w.b → IsLived tokens_of v.a × IsLived tokens_of v.b
lived_step tokens_of w v (by_a {me = me} {sent = sent} {rest = rest} acts) l = (lived_act tokens_of w.a me w.to_a sent rest acts l.0, l.1)
lived_step tokens_of w v (by_b {me = me} {sent = sent} {rest = rest} acts) l = (l.0, lived_act tokens_of w.b me w.to_b sent rest acts l.1)

pub lived_both : (tokens_of : Signing) (terms : Terms) (seed_a seed_b : List ℕ) (w : Pair) → IsReached tokens_of terms seed_a seed_b w → IsLived tokens_of w.a × IsLived tokens_of w.b
lived_both tokens_of terms seed_a seed_b w at_opening = (starts terms A seed_a (point_at seed_b 0) (point_at seed_b 1), starts terms B seed_b (point_at seed_a 0) (point_at seed_a 1))
lived_both tokens_of terms seed_a seed_b w (then {w = v} r s) = lived_step tokens_of v w s (lived_both tokens_of terms seed_a seed_b v r)

-- ---- they agree

pub ends_of : PeersAgree → SidesNumber → (x y : State) (p q : List Message) → IsPaired peer_tokens (placed A x y p q) → AreEnds x y
ends_of agrees numbers x y p q paired =
    let pair : Pair = placed A x y p q in
    let both = agrees peer_tokens paired.terms paired.seed_a paired.seed_b pair paired.reached in
    let lived = lived_both peer_tokens paired.terms paired.seed_a paired.seed_b pair paired.reached in
    record { terms = both.same_terms; a_accepted = both.a_accepted; b_accepted = both.b_accepted; a_sound = both.a_sound; b_sound = both.b_sound; a_numbered = numbers peer_tokens x lived.0; b_numbered = numbers peer_tokens y lived.1 }

pub ends_at : PeersAgree → SidesNumber → (c : ℕ) (xs ys : Channels) (ps qs : List (List Message)) (x y : ChannelBook) → ArePaired A xs ys ps qs → slice_get xs c ≡ Some x → slice_get ys c ≡ Some y
    → AreEnds x.state y.state
ends_at agrees numbers c [] ys ps qs x y paired here there = absurd (none-some x here)
ends_at agrees numbers zero (v ∷ xs) (z ∷ ys) (p ∷ ps) (q ∷ qs) x y paired here there =
    subst (λ (u : ChannelBook). AreEnds u.state y.state) (same_Some v x here)
    (subst (λ (u : ChannelBook). AreEnds v.state u.state) (same_Some z y there) (ends_of agrees numbers v.state z.state p q paired.0))
ends_at agrees numbers (suc c) (v ∷ xs) (z ∷ ys) (p ∷ ps) (q ∷ qs) x y paired here there = ends_at agrees numbers c xs ys ps qs x y paired.1 here there
ends_at agrees numbers c (v ∷ xs) [] ps qs x y paired here there = absurd paired
ends_at agrees numbers c (v ∷ xs) (z ∷ ys) [] qs x y paired here there = absurd paired
ends_at agrees numbers c (v ∷ xs) (z ∷ ys) (p ∷ ps) [] x y paired here there = absurd paired

pub as_many : (side : Side) (xs ys : Channels) (ps qs : List (List Message)) → ArePaired side xs ys ps qs → length xs ≡ length ys
as_many side [] [] [] [] paired = refl
as_many side (x ∷ xs) (y ∷ ys) (p ∷ ps) (q ∷ qs) paired = ap suc (as_many side xs ys ps qs paired.1)
as_many side [] (y ∷ ys) ps qs paired = absurd paired
as_many side [] [] (p ∷ ps) qs paired = absurd paired
as_many side [] [] [] (q ∷ qs) paired = absurd paired
as_many side (x ∷ xs) [] ps qs paired = absurd paired
as_many side (x ∷ xs) (y ∷ ys) [] qs paired = absurd paired
as_many side (x ∷ xs) (y ∷ ys) (p ∷ ps) [] paired = absurd paired
