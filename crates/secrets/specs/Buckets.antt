-- What the secrets in 49 buckets stand for: each secret inserted derives from the one in the highest bucket that reaches its
-- index.
use Rattle.std.specs.Prelude.{ℕ, zero, suc, ◌-◌, ◌*◌, ◌/◌, ◌^◌, Bool, true, false, nat_le, List, [], map}
use Rattle.std.specs.List.{slice_get, range_with_len}
use Rattle.std.specs.Option.{unwrap_or}
use Rattle.secrets.specs.Derivation.{derived_secret}

-- the secret kept in a bucket
abbrev pub kept_at : List (List ℕ) → ℕ → List ℕ
kept_at entries bucket = unwrap_or (slice_get entries bucket) []

-- the index with its lowest bits cleared
abbrev pub floor_of : ℕ → ℕ → ℕ
floor_of bucket j = j / 2 ^ bucket * 2 ^ bucket

-- the first where the bucket reaches the index, else the second
abbrev pub reached : Bool → List ℕ → List ℕ → List ℕ
reached true here below = here
reached false here below = below

-- the secret of index j, by the buckets up to this one; the lowest index inserted is `lowest`
unfoldable pub secret_from : List (List ℕ) → ℕ → ℕ → ℕ → List ℕ
secret_from entries lowest j zero = kept_at entries 0
secret_from entries lowest j (suc bucket) =
    reached (nat_le lowest (floor_of (suc bucket) j)) (derived_secret (kept_at entries (suc bucket)) (suc bucket) j)
    (secret_from entries lowest j bucket)

-- the secrets of the indices from 2^48 - 1 down to the lowest, in this order
unfoldable pub secrets_of : List (List ℕ) → ℕ → List (List ℕ)
secrets_of entries lowest =
    map (λ n. secret_from entries lowest (2 ^ 48 - 1 - n) 48) (range_with_len 0 (2 ^ 48 - lowest))
