-- What consensus takes as a number and as a signature: Bitcoin's script numbers without the rule that they are minimally encoded, and BIP 66.
use Rattle.std.specs.Prelude.{ℕ, Bool, ◌&&◌, ◌||◌, ◌==◌, not, nat_lt, nat_le, ◌+◌, ◌%◌, if◌then◌else◌, List, length, slice_index, Option, Some, None}
use Rattle.script.specs.Number.{unsigned, sign_bit}

-- a little-endian value, of which `sign` is the highest bit: the sign. Zero may have it, and any other number is then negative
abbrev pub natural_by : ℕ → ℕ → Option ℕ
natural_by sign value = if nat_le sign value && not (value % sign == 0) then None else Some (value % sign)

-- the number of an item of at most `limit` bytes, if it is not negative. A longer encoding than is needed is taken: MINIMALDATA is a rule of relay policy
unfoldable pub natural_of : ℕ → List ℕ → Option ℕ
natural_of limit b = if nat_le (length b) limit then natural_by (sign_bit b) (unsigned b) else None

-- an integer in DER: the tag 2, the length, and as many bytes; the first has no sign, and is no zero that could be left out
abbrev pub has_integer_at : List ℕ → ℕ → Bool
has_integer_at sig at = slice_index sig at == 2 && nat_lt 0 (slice_index sig (at + 1)) && nat_lt (slice_index sig (at + 2)) 128
    && (slice_index sig (at + 1) == 1 || not (slice_index sig (at + 2) == 0) || nat_le 128 (slice_index sig (at + 3)))

-- a signature in strict DER (BIP 66): 30 (hexadecimal), the length of what follows without the hash type, the integers R and S, and the hash type, in 9 to 73 bytes
unfoldable pub is_der : List ℕ → Bool
is_der sig = nat_le 9 (length sig) && nat_le (length sig) 73 && slice_index sig 0 == 0x30 && slice_index sig 1 + 3 == length sig
    && nat_lt (5 + slice_index sig 3) (length sig) && slice_index sig 3 + slice_index sig (5 + slice_index sig 3) + 7 == length sig
    && has_integer_at sig 2 && has_integer_at sig (4 + slice_index sig 3)
