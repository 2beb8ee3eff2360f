-- The byte strings that are hashed for a commitment and for the base keys of a seed, and collisions among them.
use Rattle.std.specs.Prelude.{◌≡◌, ℕ, List, [], ◌∷◌, ◌++◌, codes}
use Rattle.std.specs.List.{Contains}
use Rattle.sha2.specs.Sha256.{sha256}
use Rattle.digest.specs.Hash.{sha256d, hash160, Collide}
use Rattle.tx.specs.Fields.{Transaction}
use Rattle.tx.specs.Spelling.{stripped_spelling}
use Rattle.keys.specs.declared.bases.Base.{Base}
use Rattle.keys.specs.Derivation.{seed_secret, number_of}
use Rattle.terms.specs.declared.agreement.Terms.{Terms}
use Rattle.terms.specs.Agreement.{party}
use Rattle.terms.specs.Sides.{other}
use Rattle.commit.specs.declared.outputs.HtlcOutput.{HtlcOutput}
use Rattle.commit.specs.Outputs.{to_local_script, htlc_script}
use Rattle.commit.specs.Commitments.{htlcs_of}
use Rattle.channel.specs.declared.commitments.CommitmentState.{CommitmentState}
use Rattle.channel.specs.Tokens.{contents_of}
use Rattle.safety.specs.Signing.{Collision}
use Rattle.safety.specs.Recorded.{IsOfCommitment}

-- what is hashed for a commitment: for the ids of its transactions, for the programs of their outputs, and for the peer's keys in these
pub data IsHashedForCommitment (terms : Terms) (k : CommitmentState) (bytes : List ℕ) : Type 0 where
  of_transaction : (t : Transaction) → IsOfCommitment (contents_of terms k) t
      → bytes ≡ stripped_spelling t → IsHashedForCommitment terms k bytes
  of_to_local : bytes ≡ to_local_script (contents_of terms k).delay_blocks (contents_of terms k).keys
      → IsHashedForCommitment terms k bytes
  of_htlc_script : (h : HtlcOutput) → Contains (htlcs_of (contents_of terms k)) h → bytes
      ≡ htlc_script (contents_of terms k).keys h.direction h.htlc → IsHashedForCommitment terms k bytes
  of_payment_key : bytes ≡ (contents_of terms k).keys.remote → IsHashedForCommitment terms k bytes
  of_revocation_key : bytes ≡ codes "revoke" ++ (party (other k.owner) terms).bases.revocation.bytes
      ++ k.point.bytes → IsHashedForCommitment terms k bytes
  of_htlc_key : bytes ≡ codes "derive" ++ (party (other k.owner) terms).bases.htlc.bytes
      ++ k.point.bytes → IsHashedForCommitment terms k bytes

-- what is hashed for the base keys of a seed, and for the secrets of these
pub data IsHashedForSeed (seed : List ℕ) (bytes : List ℕ) : Type 0 where
  of_base : (b : Base) → bytes ≡ codes "point" ++ seed_secret seed (number_of b)
      → IsHashedForSeed seed bytes
  of_secret : (b : Base) → bytes ≡ codes "base" ++ seed ++ number_of b ∷ [] → IsHashedForSeed seed bytes

-- two byte strings collide under one of the hashes
pub data CollideBy (a b : List ℕ) : Type 0 where
  by_sha256 : Collide sha256 a b → CollideBy a b
  by_sha256d : Collide sha256d a b → CollideBy a b
  by_hash160 : Collide hash160 a b → CollideBy a b

-- a string that is hashed for the one collides with a string that is hashed for the other
abbrev pub StringsCollide : (IsFirst IsSecond : List ℕ → Type 0) → Type 0
StringsCollide IsFirst IsSecond = Collision CollideBy IsFirst IsSecond
