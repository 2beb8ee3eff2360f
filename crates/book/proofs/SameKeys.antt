-- Keys with equal bytes are equal, and so are the base keys of one seed: what their types keep besides has one proof.
use Rattle.std.proofs.Common.{◌≡◌, ℕ, List}
use Rattle.std.specs.Prelude.{IsTrue}
use mathlib.Core.HLevel.{is_prop→PathP}
use mathlib.Core.Bool.{Bool-set}
use Rattle.script.specs.Token.{is_key}
use Rattle.keys.specs.declared.compressed.Key.{Key}
use Rattle.terms.specs.declared.agreement.BaseKeys.{BaseKeys}
use Rattle.terms.specs.Bases.{IsSeedOf}
use Rattle.book.specs.Seeds.{bases_of}

pub same_key : (a b : Key) → a.bytes ≡ b.bytes → a ≡ b
same_key a b q = λ i. record { bytes = q i; form = is_prop→PathP (λ j. IsTrue (is_key (q j))) (λ j. Bool-set _ _) a.form b.form i }

-- these base keys are those of the seed
pub same_bases : (seed : List ℕ) (b : BaseKeys) → IsSeedOf seed b → b ≡ bases_of seed
same_bases seed b h =
    λ i. record {
      funding = same_key b.funding (bases_of seed).funding h.funding i;
      payment = same_key b.payment (bases_of seed).payment h.payment i;
      delayed = same_key b.delayed (bases_of seed).delayed h.delayed i;
      htlc = same_key b.htlc (bases_of seed).htlc h.htlc i;
      revocation = same_key b.revocation (bases_of seed).revocation h.revocation i;
    }
