-- The per-commitment secrets and points of a side by the number of the commitment (BOLT 3, "Per-commitment Secret Requirements").
use Rattle.std.specs.Prelude.{ℕ, ◌-◌, ◌/◌, ◌^◌, Bool, true, not, ◌&&◌, ◌||◌, ◌==◌, List, [], ◌∷◌, ◌++◌, length, IsTrue, codes}
use Rattle.std.specs.Str.{bytes_eq}
use Rattle.std.specs.Int.Count.{count_trailing_zeros}
use Rattle.sha2.proofs.Facts256.{length-sha256}
use Rattle.script.specs.Token.{is_key}
use Rattle.keys.specs.declared.compressed.Key.{Key}
use Rattle.keys.specs.Derivation.{point_of, commitment_seed}
use Rattle.secrets.specs.Derivation.{derived_secret, commitment_secret}

-- the index of the number among a seed's secrets
unfoldable pub index_of : ℕ → ℕ
index_of n = 2 ^ 48 - 1 - n

-- the secret of a commitment number, of a side's seed
unfoldable pub secret_at : List ℕ → ℕ → List ℕ
secret_at seed n = commitment_secret (commitment_seed seed) (index_of n)

pub point_form : (secret : List ℕ) → IsTrue (is_key (point_of secret))
unfolding is_key point_of
point_form secret = let h = length-sha256 (codes "point" ++ secret) in cc

-- the point of a secret, as a key
abbrev pub point_key : List ℕ → Key
point_key secret = record { bytes = point_of secret; form = point_form secret }

abbrev pub point_at : List ℕ → ℕ → Key
point_at seed n = point_key (secret_at seed n)

-- whether a secret of index i is consistent with one of index j (BOLT 3, "Efficient Per-commitment Secret Storage"). If j begins with the leading
-- bits of i, those above its trailing zeros, the secret of j has to derive from that of i
abbrev pub leads_to_one : List ℕ → ℕ → List ℕ → ℕ → Bool
leads_to_one secret i other j = let b = count_trailing_zeros 48 i in
    not (j / 2 ^ b == i / 2 ^ b) || bytes_eq other (derived_secret secret b j)

-- whether it is consistent with each secret of a list: the first has the index j, the second j - 1, and so on
abbrev pub leads_to : List ℕ → ℕ → List (List ℕ) → ℕ → Bool
leads_to secret i [] j = true
leads_to secret i (other ∷ rest) j = leads_to_one secret i other j && leads_to secret i rest (j - 1)

-- whether a secret is of another seed than the secrets before it, which stand by number
unfoldable pub is_foreign : List (List ℕ) → List ℕ → Bool
is_foreign secrets secret = not (leads_to secret (index_of (length secrets)) secrets (2 ^ 48 - 1))
