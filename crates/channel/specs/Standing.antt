-- What two honest peers that are played can rely on, at every moment.
use Rattle.std.specs.Prelude.{◌≡◌, ℕ, List, ◌++◌}
use Rattle.terms.specs.declared.agreement.Terms.{Terms}
use Rattle.channel.specs.declared.plays.PairStep.{PairStep}
use Rattle.channel.specs.declared.plays.Outcome.{Outcome}
use Rattle.channel.specs.States.{Signing}
use Rattle.channel.specs.Connections.{Connection, opened, IsReachable, AgreesOver}
use Rattle.channel.specs.Playing.{IsPlay, AreDelivered}

-- two peers played by any list of steps agree, where refused steps change nothing
abbrev pub PlaysAgree : Type 0
PlaysAgree =
    (tokens_of : Signing) (terms : Terms) (seed_a seed_b : List ℕ) (steps : List PairStep) (outcomes : List Outcome) (w : Connection)
    → IsPlay tokens_of (opened terms seed_a seed_b) steps outcomes w → AreDelivered steps outcomes × AgreesOver tokens_of w

-- what two honest peers reach from a new channel
pub record IsStanding (tokens_of : Signing) (w : Connection) : Type 0 where
  pub terms : Terms
  pub seed_a : List ℕ
  pub seed_b : List ℕ
  pub reached : IsReachable tokens_of terms seed_a seed_b w

-- at every moment of a play of these steps, that is after each first part of them, the two agree
abbrev pub AgreesThroughout : Signing → Connection → List PairStep → Type 0
AgreesThroughout tokens_of w steps =
    (first rest : List PairStep) (outcomes : List Outcome) (v : Connection) → first ++ rest ≡ steps → IsPlay tokens_of w first outcomes v → IsStanding tokens_of v × AgreesOver tokens_of v
