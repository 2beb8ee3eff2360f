-- Signatures in strict DER, as a witness has them (BIP 66).
use Rattle.std.specs.Prelude.{◌≡◌, ◌≤◌, ℕ, ◌+◌, ◌-◌, Bool, true, false, ◌&&◌, ◌||◌, not, ◌==◌, nat_lt, nat_le, if◌then◌else◌, List, [], ◌∷◌, ◌++◌, length, take, drop, Option, Some, None, slice_index}

-- ---- as they are spelled

-- the bytes of a number, the greatest first, and no more than it needs: the first is below 80, since the number is not negative, and is 00 only alone or before one that is not below 80
abbrev pub is_shortest : List ℕ → Bool
is_shortest [] = false
is_shortest (b ∷ []) = nat_lt b 0x80
is_shortest (b ∷ c ∷ bytes) = nat_lt b 0x80 && (not (b == 0) || nat_le 0x80 c)

-- a number: 02, how many bytes it has, and these
abbrev pub number_spelling : List ℕ → List ℕ
number_spelling n = 0x02 ∷ length n ∷ n

-- 30, how many bytes follow but for the last, the numbers r and s, and the hash type
abbrev pub signature_spelling : List ℕ → List ℕ → ℕ → List ℕ
signature_spelling r s hash_type = 0x30 ∷ (length r + length s + 4) ∷ (number_spelling r ++ (number_spelling s ++ hash_type ∷ []))

-- an item is the spelling of two such numbers and a hash type, of at most 73 bytes
pub record IsDer (item : List ℕ) : Type 0 where
  pub r : List ℕ
  pub s : List ℕ
  pub hash_type : ℕ
  pub spelled : item ≡ signature_spelling r s hash_type
  pub r_shortest : is_shortest r ≡ true
  pub s_shortest : is_shortest s ≡ true
  pub few : length item ≤ 73

-- ---- as they are read

-- what comes after a number, if bytes begin with one
abbrev pub after_number : List ℕ → Option (List ℕ)
after_number [] = None
after_number (tag ∷ []) = None
after_number (tag ∷ size ∷ bytes) = if tag == 0x02 && (nat_le size (length bytes) && is_shortest (take size bytes)) then Some (drop size bytes) else None

abbrev pub is_hash_type : Option (List ℕ) → Bool
is_hash_type (Some bytes) = length bytes == 1
is_hash_type None = false

abbrev pub is_last_number : Option (List ℕ) → Bool
is_last_number (Some bytes) = is_hash_type (after_number bytes)
is_last_number None = false

-- whether an item is a signature in strict DER, with a hash type after it
abbrev pub is_der : List ℕ → Bool
is_der [] = false
is_der (tag ∷ []) = false
is_der (tag ∷ size ∷ bytes) = nat_le (length bytes) 71 && (tag == 0x30 && (size + 1 == length bytes && is_last_number (after_number bytes)))

-- whether its last byte, the hash type, is that of ALL
abbrev pub is_sighash_all : List ℕ → Bool
is_sighash_all item = nat_lt 0 (length item) && slice_index item (length item - 1) == 0x01
