-- The base keys of a signer.
use Rattle.std.specs.Prelude.{◌≡◌, ℕ, List}
use Rattle.keys.specs.declared.bases.Base.TheVariants.{Funding, Payment, Delayed, Htlc, Revocation}
use Rattle.keys.specs.Derivation.{base_key}
use Rattle.terms.specs.declared.agreement.BaseKeys.{BaseKeys}

-- the base keys are those of a seed
pub record IsSeedOf (seed : List ℕ) (bases : BaseKeys) : Type 0 where
  pub funding : bases.funding.bytes ≡ base_key seed Funding
  pub payment : bases.payment.bytes ≡ base_key seed Payment
  pub delayed : bases.delayed.bytes ≡ base_key seed Delayed
  pub htlc : bases.htlc.bytes ≡ base_key seed Htlc
  pub revocation : bases.revocation.bytes ≡ base_key seed Revocation
