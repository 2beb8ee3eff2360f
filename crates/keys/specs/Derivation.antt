-- How keys derive (BOLT 3, "Key Derivation"), with hashes instead of elliptic curves.
use Rattle.std.specs.Prelude.{ℕ, List, [], ◌∷◌, ◌++◌, codes}
use Rattle.sha2.specs.Sha256.{sha256}
use Rattle.keys.specs.declared.bases.Base.{Base}
use Rattle.keys.specs.declared.bases.Base.TheVariants.{Funding, Payment, Delayed, Htlc, Revocation}

-- the public key of a secret
unfoldable pub point_of : List ℕ → List ℕ
point_of secret = 2 ∷ sha256 (codes "point" ++ secret)

-- the key that derives from a base key at a per-commitment point
unfoldable pub derived_key : List ℕ → List ℕ → List ℕ
derived_key base point = 2 ∷ sha256 (codes "derive" ++ base ++ point)

-- the revocation key of a base key at a per-commitment point
unfoldable pub revocation_key : List ℕ → List ℕ → List ℕ
revocation_key base point = 2 ∷ sha256 (codes "revoke" ++ base ++ point)

-- the number of a base among a seed's secrets
abbrev pub number_of : Base → ℕ
number_of Funding = 0
number_of Payment = 1
number_of Delayed = 2
number_of Htlc = 3
number_of Revocation = 4

-- the secret of a seed at this number
unfoldable pub seed_secret : List ℕ → ℕ → List ℕ
seed_secret seed number = sha256 (codes "base" ++ seed ++ number ∷ [])

-- the base key of a seed, by its kind
abbrev pub base_key : List ℕ → Base → List ℕ
base_key seed b = point_of (seed_secret seed (number_of b))

-- the seed of the per-commitment secrets
abbrev pub commitment_seed : List ℕ → List ℕ
commitment_seed seed = seed_secret seed 5
