-- In a play of honest peers no delivery needs a check, so the outcomes of a play can be computed without a hash.
use Rattle.std.proofs.Common.{◌≡◌, ℕ, List, [], ◌∷◌, map, None, refl, ap, ◌∙◌}
use Rattle.terms.specs.declared.sides.Side.{Side}
use Rattle.terms.specs.declared.agreement.Terms.{Terms}
use Rattle.channel.specs.declared.reestablish.Parcel.{Parcel}
use Rattle.channel.specs.declared.reestablish.Parcel.TheVariants.{Hello, Sent}
use Rattle.channel.specs.declared.plays.Action.TheVariants.{Own, Sign, Deliver}
use Rattle.channel.specs.declared.plays.PairStep.{PairStep}
use Rattle.channel.specs.declared.plays.PairStep.TheVariants.{Turn, Cut}
use Rattle.channel.specs.declared.plays.Outcome.{Outcome}
use Rattle.channel.specs.declared.plays.Outcome.TheVariants.{Done, NoMessage}
use Rattle.channel.specs.States.{Signing, after, answers}
use Rattle.channel.specs.Reestablishing.{is_behind, resends}
use Rattle.channel.specs.Connections.{Connection, opened}
use Rattle.channel.specs.Playing.{Played, state_of, queue_of, moved, unless, after_hello, acted, delivered_to, played, outcomes_of, connection_after}
use Rattle.channel.proofs.Standing.{joined_opened, agrees_over}
use Rattle.channel.proofs.Playing.{IsJoined, taken, joined_played}

abbrev delivered_by_trust : Signing → Connection → Side → List Parcel → Played
delivered_by_trust tokens_of w side [] = record { connection = w; outcome = NoMessage }
delivered_by_trust tokens_of w side (Sent m ∷ rest) = record { connection = moved side w (after (state_of side w) m) rest (map Sent (answers (state_of side w) m)); outcome = Done }
delivered_by_trust tokens_of w side (Hello r ∷ rest) = record { connection = moved side w (state_of side w) rest (map Sent (resends tokens_of (state_of side w) r)); outcome = Done }

abbrev played_by_trust : Signing → Connection → PairStep → Played
played_by_trust tokens_of w (Turn side (Own u)) = acted tokens_of w side (Own u)
played_by_trust tokens_of w (Turn side Sign) = acted tokens_of w side Sign
played_by_trust tokens_of w (Turn side Deliver) = delivered_by_trust tokens_of w side (queue_of side w)
played_by_trust tokens_of w Cut = played tokens_of w Cut

pub record Played' : Type 0 where
  pub connection : Connection
  pub outcomes : List Outcome

abbrev pub by_trust : Signing → Connection → List PairStep → Played'
by_trust tokens_of w [] = record { connection = w; outcomes = [] }
by_trust tokens_of w (s ∷ steps) =
    let p = played_by_trust tokens_of w s in
    let rest = by_trust tokens_of p.connection steps in
    record { connection = rest.connection; outcomes = p.outcome ∷ rest.outcomes }

same_delivered : (tokens_of : Signing) (w : Connection) (side : Side) (queue : List Parcel) → queue_of side w ≡ queue → IsJoined tokens_of w → delivered_to tokens_of w side queue ≡ delivered_by_trust tokens_of w side queue
same_delivered tokens_of w side [] q g = refl
same_delivered tokens_of w side (Sent m ∷ rest) q g =
    let t = taken tokens_of w side (Sent m) rest q (agrees_over tokens_of w g) in
    ap (λ r. unless r w (moved side w (after (state_of side w) m) rest (map Sent (answers (state_of side w) m)))) t.passes
same_delivered tokens_of w side (Hello r ∷ rest) q g =
    let t = taken tokens_of w side (Hello r) rest q (agrees_over tokens_of w g) in
    let v = moved side w (state_of side w) rest (map Sent (resends tokens_of (state_of side w) r)) in
    ap (λ e. after_hello e (is_behind (state_of side w) r) w v) t.passes ∙ ap (λ b. after_hello None b w v) t.ahead

same_played : (tokens_of : Signing) (w : Connection) (s : PairStep) → IsJoined tokens_of w → played tokens_of w s ≡ played_by_trust tokens_of w s
same_played tokens_of w (Turn side (Own u)) g = refl
same_played tokens_of w (Turn side Sign) g = refl
same_played tokens_of w (Turn side Deliver) g = same_delivered tokens_of w side (queue_of side w) refl g
same_played tokens_of w Cut g = refl

same_play : (tokens_of : Signing) (w : Connection) (steps : List PairStep) → IsJoined tokens_of w
    → (outcomes_of tokens_of w steps ≡ (by_trust tokens_of w steps).outcomes) × (connection_after tokens_of w steps ≡ (by_trust tokens_of w steps).connection)
same_play tokens_of w [] g = (refl, refl)
same_play tokens_of w (s ∷ steps) g =
    let rest = same_play tokens_of (played tokens_of w s).connection steps (joined_played tokens_of w s g) in
    let e = same_played tokens_of w s g in (
      ap (λ os. (played tokens_of w s).outcome ∷ os) rest.0 ∙ ap (λ (p : Played). p.outcome ∷ (by_trust tokens_of p.connection steps).outcomes) e,
      rest.1 ∙ ap (λ (p : Played). (by_trust tokens_of p.connection steps).connection) e,
    )

pub outcomes-trusting : (tokens_of : Signing) (terms : Terms) (seed_a seed_b : List ℕ) (steps : List PairStep) → outcomes_of tokens_of (opened terms seed_a seed_b) steps ≡ (by_trust tokens_of (opened terms seed_a seed_b) steps).outcomes
outcomes-trusting tokens_of terms seed_a seed_b steps = (same_play tokens_of (opened terms seed_a seed_b) steps (joined_opened tokens_of terms seed_a seed_b)).0

pub connection-trusting : (tokens_of : Signing) (terms : Terms) (seed_a seed_b : List ℕ) (steps : List PairStep) → connection_after tokens_of (opened terms seed_a seed_b) steps ≡ (by_trust tokens_of (opened terms seed_a seed_b) steps).connection
connection-trusting tokens_of terms seed_a seed_b steps = (same_play tokens_of (opened terms seed_a seed_b) steps (joined_opened tokens_of terms seed_a seed_b)).1
