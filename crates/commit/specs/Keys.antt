-- The keys of one commitment (BOLT 3, "Key Derivation").
use Rattle.std.specs.Prelude.{◌≡◌, ℕ, List}
use Rattle.keys.specs.Derivation.{derived_key, revocation_key}
use Rattle.terms.specs.declared.sides.Side.{Side}
use Rattle.terms.specs.declared.agreement.Terms.{Terms}
use Rattle.terms.specs.Agreement.{party}
use Rattle.terms.specs.Sides.{other}
use Rattle.commit.specs.declared.derived.CommitmentKeys.{CommitmentKeys}

-- the keys of the owner's commitment with a per-commitment point: the owner's keys derive from its own bases, the others from
-- its peer's
pub record AreKeysOf (terms : Terms) (owner : Side) (point : List ℕ) (k : CommitmentKeys) : Type 0 where
  pub revocation : k.revocation.bytes ≡ revocation_key (party (other owner) terms).bases.revocation.bytes point
  pub delayed : k.delayed.bytes ≡ derived_key (party owner terms).bases.delayed.bytes point
  pub local_htlc : k.local_htlc.bytes ≡ derived_key (party owner terms).bases.htlc.bytes point
  pub remote_htlc : k.remote_htlc.bytes ≡ derived_key (party (other owner) terms).bases.htlc.bytes point
  pub remote : k.remote ≡ (party (other owner) terms).bases.payment

-- the bytes of these keys
pub record KeyBytes : Type 0 where
  pub revocation : List ℕ
  pub delayed : List ℕ
  pub local_htlc : List ℕ
  pub remote_htlc : List ℕ
  pub remote : List ℕ

abbrev pub bytes_of : CommitmentKeys → KeyBytes
bytes_of k = record {
  revocation = k.revocation.bytes;
  delayed = k.delayed.bytes;
  local_htlc = k.local_htlc.bytes;
  remote_htlc = k.remote_htlc.bytes;
  remote = k.remote.bytes;
}

-- the keys of the owner's commitment with a per-commitment point
unfoldable pub keys_of : Terms → Side → List ℕ → KeyBytes
keys_of terms owner point = record {
  revocation = revocation_key (party (other owner) terms).bases.revocation.bytes point;
  delayed = derived_key (party owner terms).bases.delayed.bytes point;
  local_htlc = derived_key (party owner terms).bases.htlc.bytes point;
  remote_htlc = derived_key (party (other owner) terms).bases.htlc.bytes point;
  remote = (party (other owner) terms).bases.payment.bytes;
}
