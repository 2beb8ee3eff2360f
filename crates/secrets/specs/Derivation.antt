-- How a per-commitment secret is derived (BOLT 3, "Per-commitment Secret Requirements").
use Rattle.std.specs.Prelude.{ℕ, zero, suc, ◌/◌, ◌%◌, ◌^◌, List, bit_xor, slice_index, slice_set}
use Rattle.std.specs.Int.{bit_at}
use Rattle.sha2.specs.Sha256.{sha256}

-- the bytes with one bit flipped: bit b mod 8 of byte b div 8, the lowest bit of a byte being its bit 0
unfoldable pub flipped : ℕ → List ℕ → List ℕ
flipped b s = slice_set s (b / 8) (bit_xor (slice_index s (b / 8)) (2 ^ (b % 8)))

-- the secret after one bit of the index: where the bit is 1, the same bit of the secret is flipped and the result
-- hashed
abbrev pub after_bit : ℕ → ℕ → List ℕ → List ℕ
after_bit zero b s = s
after_bit (suc _) b s = sha256 (flipped b s)

-- the secret derived from s by the lowest b bits of the index i, the highest of them first
unfoldable pub derived_secret : List ℕ → ℕ → ℕ → List ℕ
derived_secret s zero i = s
derived_secret s (suc b) i = derived_secret (after_bit (bit_at i b) b s) b i

-- the secret of an index i of 48 bits
abbrev pub commitment_secret : List ℕ → ℕ → List ℕ
commitment_secret seed i = derived_secret seed 48 i
