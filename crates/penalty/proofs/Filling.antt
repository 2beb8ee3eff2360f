-- The owner's peer can fill each claim of a revoked state.
use Rattle.std.proofs.Common.{ap}
use Rattle.std.specs.Prelude.{Contains}
use Rattle.keys.specs.declared.bases.Base.TheVariants.{Payment, Revocation}
use Rattle.keys.specs.Derivation.{point_of, revocation_key}
use Rattle.keys.specs.Rights.{Rights, MaySign, own, revoked}
use Rattle.terms.specs.Agreement.{party}
use Rattle.terms.specs.Sides.{other}
use Rattle.commit.specs.Keys.{keys_of}
use Rattle.commit.specs.Commitments.{commitment_of}
use Rattle.penalty.specs.declared.states.RevokedState.{RevokedState}
use Rattle.penalty.specs.Claimable.{claimable_of, commitment_in}
use Rattle.penalty.specs.Rights.{AreBasesOf, PeerCanFill}
use Rattle.penalty.proofs.Fillable.{all_fillable}

of_revocation : (state : RevokedState) (r : Rights) → AreBasesOf r (party (other state.owner) state.terms).bases → Contains r.secrets state.secret → MaySign r (commitment_in state).keys.revocation
unfolding commitment_of keys_of
of_revocation state r b learnt = revoked Revocation state.secret learnt (ap (λ k. revocation_key k (point_of state.secret)) b.revocation)

of_payment : (state : RevokedState) (r : Rights) → AreBasesOf r (party (other state.owner) state.terms).bases → MaySign r (commitment_in state).keys.remote
unfolding commitment_of keys_of
of_payment state r b = own Payment b.payment

pub peer_can_fill : PeerCanFill
unfolding claimable_of
peer_can_fill state r b learnt = all_fillable r (commitment_in state) 0 _ (of_revocation state r b learnt) (of_payment state r b)
