-- Only the owner's peer may sign with its keys: up to collisions, no signer of another seed may, whatever it learnt.
use Rattle.std.specs.Prelude.{◌≡◌, ◌≢◌, ℕ, List, [], ◌∷◌, ◌++◌, codes}
use Rattle.std.specs.List.{Contains}
use Rattle.sha2.specs.Sha256.{sha256}
use Rattle.digest.specs.Hash.{Collide}
use Rattle.keys.specs.declared.bases.Base.{Base}
use Rattle.keys.specs.declared.bases.Base.TheVariants.{Payment, Htlc, Revocation}
use Rattle.keys.specs.Derivation.{point_of, base_key}
use Rattle.keys.specs.Rights.{Rights, MaySign}
use Rattle.terms.specs.declared.agreement.BaseKeys.{BaseKeys}
use Rattle.terms.specs.Agreement.{party}
use Rattle.terms.specs.Sides.{other}
use Rattle.penalty.specs.declared.states.RevokedState.{RevokedState}
use Rattle.penalty.specs.Claimable.{commitment_in}
use Rattle.safety.specs.Signing.{Collision}
use Rattle.safety.specs.Strings.{IsHashedForSeed}
use Rattle.safety.specs.Spending.{peer_keys}

-- the byte strings that are hashed for what a signer may sign with: those for its seed, and its keys at what it learnt
pub data IsHashedForRights (r : Rights) (bytes : List ℕ) : Type 0 where
  of_seed : IsHashedForSeed r.seed bytes → IsHashedForRights r bytes
  of_derived : (b : Base) (point : List ℕ) → Contains r.points point → bytes ≡ codes "derive" ++ base_key r.seed b ++ point → IsHashedForRights r bytes
  of_revoked : (b : Base) (secret : List ℕ) → Contains r.secrets secret → bytes ≡ codes "revoke" ++ base_key r.seed b ++ point_of secret → IsHashedForRights r bytes

-- the rights of a seed, once it has learnt the state's secret and its point
abbrev pub peer_rights : List ℕ → RevokedState → Rights
peer_rights seed state = record { seed = seed; points = point_of state.secret ∷ []; secrets = state.secret ∷ [] }

-- the base keys are those of a seed
pub record AreOfSeed (seed : List ℕ) (bases : BaseKeys) : Type 0 where
  pub payment : bases.payment.bytes ≡ base_key seed Payment
  pub htlc : bases.htlc.bytes ≡ base_key seed Htlc
  pub revocation : bases.revocation.bytes ≡ base_key seed Revocation

-- where the peer's base keys are of one seed, and a signer of another seed may sign with a key of the peer's, a byte string that one hashes for its keys collides with one that the other hashes
abbrev pub OnlyPeerSigns : Type 0
OnlyPeerSigns =
    (state : RevokedState) (seed : List ℕ) (r : Rights) → r.seed ≢ seed → AreOfSeed seed (party (other state.owner) state.terms).bases
    → (key : List ℕ) → Contains (peer_keys (commitment_in state).keys) key → MaySign r key → Collision (Collide sha256) (IsHashedForRights r) (IsHashedForRights (peer_rights seed state))
