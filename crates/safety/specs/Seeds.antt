-- That the commitments of two sides, with seeds of their own, are of two transactions.
use Rattle.std.specs.Prelude.{◌≡◌, ◌≢◌, ◌⊎◌, ℕ, List, Some, slice_get}
use Rattle.terms.specs.declared.agreement.Terms.{Terms}
use Rattle.terms.specs.Agreement.{party}
use Rattle.terms.specs.Sides.{other}
use Rattle.commit.specs.declared.outputs.CommitmentOutput.{CommitmentOutput}
use Rattle.commit.specs.Commitments.{transaction_of}
use Rattle.penalty.specs.Paying.{CanPay}
use Rattle.channel.specs.declared.commitments.CommitmentState.{CommitmentState}
use Rattle.channel.specs.Tokens.{contents_of}
use Rattle.safety.specs.Owning.{AreOfSeed}
use Rattle.safety.specs.Strings.{IsHashedForCommitment, IsHashedForSeed, StringsCollide}

-- the base keys of a side and of its peer are of two seeds
pub record AreOfTwoSeeds (terms : Terms) (k : CommitmentState) (seed rival : List ℕ) : Type 0 where
  pub owners : AreOfSeed seed (party k.owner terms).bases
  pub peers : AreOfSeed rival (party (other k.owner) terms).bases
  pub apart : seed ≢ rival

-- a string that is hashed for one commitment or one seed collides with one that is hashed for the other
abbrev pub SidesCollide : Terms → (k m : CommitmentState) → (seed rival : List ℕ) → Type 0
SidesCollide terms k m seed rival = StringsCollide (IsHashedForCommitment terms k) (IsHashedForCommitment terms m) ⊎ StringsCollide (IsHashedForSeed seed) (IsHashedForSeed rival)

-- a commitment with an output and one of the other side have one transaction only where such strings collide. Without an output they may have one
abbrev pub SidesDiffer : Type 0
SidesDiffer =
    (terms : Terms) (k m : CommitmentState) → CanPay terms k.view → CanPay terms m.view → m.owner ≡ other k.owner
    → (seed rival : List ℕ) → AreOfTwoSeeds terms k seed rival
    → (index : ℕ) (output : CommitmentOutput) → slice_get (contents_of terms k).outputs index ≡ Some output
    → transaction_of (contents_of terms k) ≡ transaction_of (contents_of terms m) → SidesCollide terms k m seed rival
