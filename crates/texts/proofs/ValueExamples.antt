-- The parts of shapes on both sides of their limits.
use Rattle.std.proofs.Common.{◌≡◌, ℕ, List, [], ◌∷◌, Some, None, codes, refl}
use Rattle.std.specs.Prelude.{negsuc, true}
use Rattle.hex.proofs.OnLiterals.{hex_on_literals}
use Rattle.serde_json.specs.Data.{Data, no_items, item, no_members, member, null, boolean, number, string, array, object, unsigned, negative}
use Rattle.terms.specs.declared.sides.Side.TheVariants.{A, B}
use Rattle.texts.specs.Values.{u64_of, u32_of, u16_of, bytes_of, bytes_of_len, side_of, array_of, object_of, item_of, member_of, pair_of, list_of}
use Rattle.texts.specs.Outpoints.{digits_from, index_in, outpoint_in, outpoint_of}

abbrev n : ℕ → Data
n k = number (unsigned k)

abbrev text : List ℕ → Data
text s = string s

widths : (u16_of (n 65535) ≡ Some 65535) × (u16_of (n 65536) ≡ None)
    × (u32_of (n 4294967295) ≡ Some 4294967295) × (u32_of (n 4294967296) ≡ None)
    × (u64_of (n 18446744073709551615) ≡ Some 18446744073709551615)
widths = (refl, refl, refl, refl, refl)

-- a negative number and values of other kinds are not read as numbers
no_numbers : (u64_of (number (negative (negsuc 0))) ≡ None) × (u64_of null ≡ None) × (u64_of (boolean true) ≡ None)
    × (u64_of (text (codes "1")) ≡ None) × (u64_of (array (item (n 1) no_items)) ≡ None) × (u64_of (object no_members) ≡ None)
no_numbers = (refl, refl, refl, refl, refl, refl)

-- both letter cases are read; an odd number of digits, another character and another length are not
hexadecimal : (bytes_of (text (codes "00fFFf")) ≡ Some (0 ∷ 255 ∷ 255 ∷ []))
    × (bytes_of (text (codes "")) ≡ Some [])
    × (bytes_of (text (codes "0")) ≡ None) × (bytes_of (text (codes "0g")) ≡ None) × (bytes_of (n 0) ≡ None)
    × (bytes_of_len 2 (text (codes "AB09")) ≡ Some (171 ∷ 9 ∷ []))
    × (bytes_of_len 2 (text (codes "AB")) ≡ None) × (bytes_of_len 2 (text (codes "AB0900")) ≡ None)
unfolding hex_on_literals
hexadecimal = (refl, refl, refl, refl, refl, refl, refl, refl)

sides : (side_of (text (codes "A")) ≡ Some A) × (side_of (text (codes "B")) ≡ Some B)
    × (side_of (text (codes "a")) ≡ None) × (side_of (text (codes "AB")) ≡ None) × (side_of (text []) ≡ None)
sides = (refl, refl, refl, refl, refl)

abbrev two : Data
two = array (item (n 7) (item (n 8) no_items))

arrays : (array_of 2 two ≡ Some two) × (array_of 1 two ≡ None) × (array_of 3 two ≡ None) × (array_of 0 (object no_members) ≡ None)
    × (item_of 0 u64_of two ≡ Some 7) × (item_of 1 u64_of two ≡ Some 8) × (item_of 2 u64_of two ≡ None)
    × (pair_of u64_of two ≡ Some (7, 8)) × (list_of u64_of two ≡ Some (7 ∷ 8 ∷ []))
    × (list_of side_of two ≡ None) × (list_of u64_of (array no_items) ≡ Some [])
arrays = (refl, refl, refl, refl, refl, refl, refl, refl, refl, refl, refl)

abbrev named : Data
named = object (member (codes "a") (n 7) (member (codes "b") (n 8) no_members))

objects : (object_of 2 named ≡ Some named) × (object_of 1 named ≡ None) × (object_of 3 named ≡ None) × (object_of 0 (array no_items) ≡ None)
    × (member_of (codes "a") u64_of named ≡ Some 7) × (member_of (codes "b") u64_of named ≡ Some 8) × (member_of (codes "c") u64_of named ≡ None)
objects = (refl, refl, refl, refl, refl, refl, refl)

indices : (index_in (codes "0") ≡ Some 0) × (index_in (codes "10") ≡ Some 10) × (index_in (codes "4294967295") ≡ Some 4294967295)
    × (index_in (codes "4294967296") ≡ None) × (index_in (codes "42949672950") ≡ None)
    × (index_in [] ≡ None) × (index_in (codes "00") ≡ None) × (index_in (codes "01") ≡ None) × (index_in (codes "+1") ≡ None)
    × (index_in (codes "1a") ≡ None)
unfolding digits_from
indices = (refl, refl, refl, refl, refl, refl, refl, refl, refl, refl)

-- the id's bytes are not reversed
outpoints : (outpoint_of (text (codes "00000000000000000000000000000000000000000000000000000000000000aB:12")) ≡ Some (record {
  txid = 0 ∷ 0 ∷ 0 ∷ 0 ∷ 0 ∷ 0 ∷ 0 ∷ 0 ∷ 0 ∷ 0 ∷ 0 ∷ 0 ∷ 0 ∷ 0 ∷ 0 ∷ 0 ∷ 0 ∷ 0 ∷ 0 ∷ 0 ∷ 0 ∷ 0 ∷ 0 ∷ 0 ∷ 0 ∷ 0 ∷ 0 ∷ 0 ∷ 0 ∷ 0 ∷ 0 ∷ 171 ∷ [];
  index = 12;
}))
    × (outpoint_of (text (codes "00000000000000000000000000000000000000000000000000000000000000aB-12")) ≡ None)
    × (outpoint_of (text (codes "0000000000000000000000000000000000000000000000000000000000000aB:12")) ≡ None)
    × (outpoint_of (text (codes "00000000000000000000000000000000000000000000000000000000000000aB")) ≡ None)
unfolding digits_from outpoint_in hex_on_literals
outpoints = (refl, refl, refl, refl)
