-- What is due by a verdict is exactly what a node counts on.
use Rattle.std.specs.Prelude.{◌⊎◌, ℕ, Bool, true, false, List}
use Rattle.std.specs.List.{Contains}
use Rattle.penalty.specs.Claimable.{Claimable}
use Rattle.resolve.specs.declared.known.Known.{Known}
use Rattle.resolve.specs.Due.{due_of}
use Rattle.channel.specs.declared.commitments.CommitmentState.{CommitmentState}
use Rattle.worth_laws.specs.Counted.{known_by}
use Rattle.worth_laws.specs.Least.{MayClose, counted_by}
use Rattle.safety.specs.Holdings.{Holding, KeepsRules}
use Rattle.due_laws.specs.Breaks.{DuesBreak}
use Rattle.due_laws.specs.Knowing.{IsKnownTo}
use Rattle.due_laws.specs.Verdicts.{verdict_by}

-- Claims are exactly those that are counted. Whichever HTLC transactions stand (`stands` says so of the index of the output that is spent), all that are counted are among them. And each of them is counted where no HTLC
-- transaction stands, or where each does
pub record AreExactly (claims : List Claimable) (counts : (ℕ → Bool) → List Claimable) : Type 0 where
  pub all : (stands : ℕ → Bool) (o : Claimable) → Contains (counts stands) o → Contains claims o
  pub only : (o : Claimable) → Contains claims o → Contains (counts (λ _. false)) o ⊎ Contains (counts (λ _. true)) o

-- such are those that are due by the right verdict on each commitment that may close a channel; or strings collide
abbrev pub DuesAreCounted : Type 0
DuesAreCounted =
    (h : Holding) → KeepsRules h → (known : Known) → IsKnownTo h known
    → (k : CommitmentState) (m : MayClose h.state k) → AreExactly (due_of known (verdict_by h.state k m)) (λ stands. counted_by (known_by known.preimages) stands h.state k m) ⊎ DuesBreak h.state known.preimages
