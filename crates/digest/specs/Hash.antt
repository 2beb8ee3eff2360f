-- The hashes of Bitcoin, as functions on lists of bytes.
use Rattle.std.specs.Prelude.{◌≡◌, ◌≢◌, ℕ, List}
use Rattle.sha2.specs.Sha256.{sha256}
use Rattle.digest.specs.Ripemd160.{ripemd160}

-- SHA-256 twice
abbrev pub sha256d : List ℕ → List ℕ
sha256d m = sha256 (sha256 m)

-- RIPEMD-160 of SHA-256
abbrev pub hash160 : List ℕ → List ℕ
hash160 m = ripemd160 (sha256 m)

-- two byte strings collide: they differ, and have the same hash
abbrev pub Collide : (List ℕ → List ℕ) → List ℕ → List ℕ → Type 0
Collide hash a b = (a ≢ b) × (hash a ≡ hash b)
