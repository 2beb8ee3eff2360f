-- Who can fill the claims of a revoked state.
use Rattle.std.specs.Prelude.{◌≡◌, Contains}
use Rattle.std.specs.List.{AllByRecursion}
use Rattle.keys.specs.declared.bases.Base.TheVariants.{Payment, Revocation}
use Rattle.keys.specs.Derivation.{base_key}
use Rattle.keys.specs.Rights.{Rights, MaySign}
use Rattle.terms.specs.declared.agreement.BaseKeys.{BaseKeys}
use Rattle.terms.specs.Agreement.{party}
use Rattle.terms.specs.Sides.{other}
use Rattle.forms.specs.Fillings.{Filling, Signature, PreimageOf, Bytes}
use Rattle.penalty.specs.declared.states.RevokedState.{RevokedState}
use Rattle.penalty.specs.Claimable.{Claimable, claimable_of}

-- a signer can fill a slot by itself: it may sign for the key, and no preimage is wanted
abbrev pub CanFill : Rights → Filling → Type 0
CanFill r (Signature key) = MaySign r key
CanFill r (PreimageOf hash) = ⊥
CanFill r (Bytes bytes) = Unit {0}

abbrev pub CanFillAll : Rights → Claimable → Type 0
CanFillAll r o = AllByRecursion (CanFill r) o.slots

-- the payment and revocation base keys are the signer's
pub record AreBasesOf (r : Rights) (bases : BaseKeys) : Type 0 where
  pub payment : bases.payment.bytes ≡ base_key r.seed Payment
  pub revocation : bases.revocation.bytes ≡ base_key r.seed Revocation

-- once the owner's peer has learnt the secret, it can fill each claim
abbrev pub PeerCanFill : Type 0
PeerCanFill =
    (state : RevokedState) (r : Rights) → AreBasesOf r (party (other state.owner) state.terms).bases → Contains r.secrets state.secret
    → AllByRecursion (CanFillAll r) (claimable_of state)
