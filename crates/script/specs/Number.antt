-- Script numbers: little-endian, with a sign bit in the last byte.
use Rattle.std.specs.Prelude.{ℕ, zero, suc, ◌+◌, ◌*◌, ◌/◌, ◌%◌, ◌^◌, ◌&&◌, nat_lt, nat_le, ◌==◌, if◌then◌else◌, false, List, [], ◌∷◌, ◌++◌, length, Option, Some, None}
use Rattle.script.specs.declared.num.Number.{Number}
use Rattle.script.specs.declared.num.Limit.{Limit}
use Rattle.script.specs.declared.num.Limit.TheVariants.{Count, Lock}

-- how many bytes a number for this use may have
abbrev pub bytes_in : Limit → ℕ
bytes_in Count = 4
bytes_in Lock = 5

-- the little-endian value
abbrev pub unsigned : List ℕ → ℕ
unsigned [] = 0
unsigned (b ∷ bs) = b + 256 * unsigned bs

-- the sign bit, as a number
abbrev pub sign_bit : List ℕ → ℕ
sign_bit bs = 256 ^ length bs / 2

-- the value without the sign bit
abbrev pub magnitude_of : List ℕ → ℕ
magnitude_of bs = unsigned bs % sign_bit bs

-- the number of these bytes: a sign bit, and the magnitude
abbrev pub signed_number : List ℕ → Number
signed_number b = record { negative = nat_le (sign_bit b) (unsigned b); magnitude = magnitude_of b }

-- the number that an item of at most `limit` bytes encodes, where no shorter item does: its magnitude is more than one
-- byte less could hold
unfoldable pub number_of : ℕ → List ℕ → Option Number
number_of limit [] = Some (record { negative = false; magnitude = 0 })
number_of limit (b ∷ bs) =
    if nat_le (length (b ∷ bs)) limit && nat_le (256 ^ length bs) (2 * magnitude_of (b ∷ bs))
    then Some (signed_number (b ∷ bs)) else None

-- the lowest digit of a number in base 256; the last digit gets one more byte for the sign if its highest bit is set
abbrev pub lowest : ℕ → List ℕ
lowest n = if nat_le 128 n && nat_lt n 256 then (n ∷ 0 ∷ []) else (n % 256 ∷ [])

-- the digits of a number, the lowest first, at most this many
unfoldable pub digits : ℕ → ℕ → List ℕ
digits zero n = []
digits (suc more) n = if n == 0 then [] else (lowest n ++ digits more (n / 256))

-- the minimal encoding of a number that is not negative and below 2 ^ 64
unfoldable pub minimal_bytes_of : ℕ → List ℕ
minimal_bytes_of n = digits 9 n
