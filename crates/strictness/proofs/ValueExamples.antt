-- What consensus takes as a number and as a signature: on both sides of each rule.
use Rattle.std.proofs.Common.{◌≡◌, ℕ, true, false, List, [], ◌∷◌, ◌++◌, map, replicate, refl, Some, None}
use Rattle.strictness.specs.Values.{natural_of, is_der}

-- counts of at most four bytes, however they are encoded: 0, 1, 20 and 21 of two bytes, 1 of four; zero with a sign of one byte and of two; the greatest
counts : map (natural_of 4) ([] ∷ (1 ∷ []) ∷ (20 ∷ 0 ∷ []) ∷ (21 ∷ 0 ∷ []) ∷ (1 ∷ 0 ∷ 0 ∷ 0 ∷ []) ∷ (0x80 ∷ []) ∷ (0 ∷ 0x80 ∷ []) ∷ (0xff ∷ 0xff ∷ 0xff ∷ 0x7f ∷ []) ∷ []) ≡
    Some 0 ∷ Some 1 ∷ Some 20 ∷ Some 21 ∷ Some 1 ∷ Some 0 ∷ Some 0 ∷ Some 2147483647 ∷ []
unfolding natural_of
counts = refl

-- 1 of five bytes, -1 of one byte and of two, and the least
no_counts : map (natural_of 4) ((1 ∷ 0 ∷ 0 ∷ 0 ∷ 0 ∷ []) ∷ (0x81 ∷ []) ∷ (1 ∷ 0x80 ∷ []) ∷ (0xff ∷ 0xff ∷ 0xff ∷ 0xff ∷ []) ∷ []) ≡ None ∷ None ∷ None ∷ None ∷ []
unfolding natural_of
no_counts = refl

-- locks of five and of six bytes
locks : map (natural_of 5) ((1 ∷ 0 ∷ 0 ∷ 0 ∷ 0 ∷ []) ∷ (0xff ∷ 0xff ∷ 0xff ∷ 0xff ∷ 0x7f ∷ []) ∷ (0 ∷ 0 ∷ 0 ∷ 0 ∷ 0x80 ∷ []) ∷ (1 ∷ 0 ∷ 0 ∷ 0 ∷ 0 ∷ 0 ∷ []) ∷ (1 ∷ 0 ∷ 0 ∷ 0 ∷ 0x80 ∷ []) ∷ []) ≡
    Some 1 ∷ Some 549755813887 ∷ Some 0 ∷ None ∷ None ∷ []
unfolding natural_of
locks = refl

-- the two signatures of BIP 143's example of P2WPKH and of its spent P2PK, with their hash type
abbrev of_bip_143 : List (List ℕ)
of_bip_143 =
    (0x30 ∷ 0x44 ∷ 0x02 ∷ 0x20 ∷ 0x36 ∷ 0x09 ∷ 0xe1 ∷ 0x7b ∷ 0x84 ∷ 0xf6 ∷ 0xa7 ∷ 0xd3 ∷ 0x0c ∷ 0x80 ∷ 0xbf ∷ 0xa6 ∷ 0x10 ∷ 0xb5 ∷ 0xb4 ∷ 0x54 ∷ 0x2f ∷ 0x32 ∷ 0xa8 ∷ 0xa0 ∷ 0xd5 ∷ 0x44 ∷ 0x7a ∷ 0x12 ∷ 0xfb ∷ 0x13 ∷ 0x66 ∷ 0xd7 ∷ 0xf0 ∷ 0x1c ∷ 0xc4 ∷ 0x4a
    ∷ 0x02 ∷ 0x20 ∷ 0x57 ∷ 0x3a ∷ 0x95 ∷ 0x4c ∷ 0x45 ∷ 0x18 ∷ 0x33 ∷ 0x15 ∷ 0x61 ∷ 0x40 ∷ 0x6f ∷ 0x90 ∷ 0x30 ∷ 0x0e ∷ 0x8f ∷ 0x33 ∷ 0x58 ∷ 0xf5 ∷ 0x19 ∷ 0x28 ∷ 0xd4 ∷ 0x3c ∷ 0x21 ∷ 0x2a ∷ 0x8c ∷ 0xae ∷ 0xd0 ∷ 0x2d ∷ 0xe6 ∷ 0x7e ∷ 0xeb ∷ 0xee ∷ 0x01 ∷ [])
    ∷ (0x30 ∷ 0x45 ∷ 0x02 ∷ 0x21 ∷ 0x00 ∷ 0x8b ∷ 0x9d ∷ 0x1d ∷ 0xc2 ∷ 0x6b ∷ 0xa6 ∷ 0xa9 ∷ 0xcb ∷ 0x62 ∷ 0x12 ∷ 0x7b ∷ 0x02 ∷ 0x74 ∷ 0x2f ∷ 0xa9 ∷ 0xd7 ∷ 0x54 ∷ 0xcd ∷ 0x3b ∷ 0xeb ∷ 0xf3 ∷ 0x37 ∷ 0xf7 ∷ 0xa5 ∷ 0x5d ∷ 0x11 ∷ 0x4c ∷ 0x8e ∷ 0x5c ∷ 0xdd ∷ 0x30 ∷ 0xbe
    ∷ 0x02 ∷ 0x20 ∷ 0x40 ∷ 0x52 ∷ 0x9b ∷ 0x19 ∷ 0x4b ∷ 0xa3 ∷ 0xf9 ∷ 0x28 ∷ 0x1a ∷ 0x99 ∷ 0xf2 ∷ 0xb1 ∷ 0xc0 ∷ 0xa1 ∷ 0x9c ∷ 0x04 ∷ 0x89 ∷ 0xbc ∷ 0x22 ∷ 0xed ∷ 0xe9 ∷ 0x44 ∷ 0xcc ∷ 0xf4 ∷ 0xec ∷ 0xba ∷ 0xb4 ∷ 0xcc ∷ 0x61 ∷ 0x8e ∷ 0xf3 ∷ 0xed ∷ 0x01 ∷ [])
    ∷ []

published : map is_der of_bip_143 ≡ true ∷ true ∷ []
unfolding is_der
published = refl

-- an integer in DER of this many bytes and two more, whose first byte is no sign
abbrev integer : ℕ → List ℕ
integer n = 2 ∷ n ∷ replicate n 127

-- a signature in DER of two integers, and its hash type; `whole` should be the length of the integers
abbrev der : ℕ → ℕ → ℕ → List ℕ
der whole m n = 0x30 ∷ whole ∷ (integer m ++ integer n ++ 1 ∷ [])

-- of 9, 72 and 73 bytes; and a zero before a byte that would be a sign
signatures : map is_der (der 6 1 1 ∷ der 69 33 32 ∷ der 70 33 33 ∷ (0x30 ∷ 7 ∷ 2 ∷ 2 ∷ 0 ∷ 0x80 ∷ 2 ∷ 1 ∷ 1 ∷ 1 ∷ []) ∷ (0x30 ∷ 7 ∷ 2 ∷ 1 ∷ 1 ∷ 2 ∷ 2 ∷ 0 ∷ 0x80 ∷ 1 ∷ []) ∷ []) ≡ true ∷ true ∷ true ∷ true ∷ true ∷ []
unfolding is_der
signatures = refl

-- of 74 bytes, of none, and of 8; a length that is one too great and one too small; another tag of the whole, of R and of S; no R and no S; R and S negative; R and S with a zero that could be left out; a byte more after S; no hash type
no_signatures : map is_der
    (der 71 34 33 ∷ [] ∷ der 5 1 0 ∷ der 7 1 1 ∷ der 5 1 1 ∷ (0x31 ∷ 6 ∷ integer 1 ++ integer 1 ++ 1 ∷ []) ∷ (0x30 ∷ 6 ∷ 3 ∷ 1 ∷ 1 ∷ 2 ∷ 1 ∷ 1 ∷ 1 ∷ []) ∷ (0x30 ∷ 6 ∷ 2 ∷ 1 ∷ 1 ∷ 3 ∷ 1 ∷ 1 ∷ 1 ∷ [])
    ∷ der 6 0 2 ∷ der 6 2 0 ∷ (0x30 ∷ 6 ∷ 2 ∷ 1 ∷ 0x80 ∷ 2 ∷ 1 ∷ 1 ∷ 1 ∷ []) ∷ (0x30 ∷ 6 ∷ 2 ∷ 1 ∷ 1 ∷ 2 ∷ 1 ∷ 0x80 ∷ 1 ∷ []) ∷ (0x30 ∷ 7 ∷ 2 ∷ 2 ∷ 0 ∷ 127 ∷ 2 ∷ 1 ∷ 1 ∷ 1 ∷ []) ∷ (0x30 ∷ 7 ∷ 2 ∷ 1 ∷ 1 ∷ 2 ∷ 2 ∷ 0 ∷ 127 ∷ 1 ∷ [])
    ∷ (0x30 ∷ 7 ∷ 2 ∷ 1 ∷ 1 ∷ 2 ∷ 1 ∷ 1 ∷ 0 ∷ 1 ∷ []) ∷ (0x30 ∷ 6 ∷ 2 ∷ 1 ∷ 1 ∷ 2 ∷ 2 ∷ 1 ∷ 1 ∷ []) ∷ [])
    ≡ replicate 16 false
unfolding is_der
no_signatures = refl
