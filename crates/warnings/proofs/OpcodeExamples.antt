-- The opcodes outside the table, by Bitcoin's own reading of the bytes.
use Rattle.std.proofs.Common.{◌≡◌, true, false, [], ◌∷◌, map, refl}
use Rattle.warnings.specs.Opcodes.{unknown_in, is_known, is_plain, data_len, next_skip, placed}

-- each byte at the ends of what is in the table
table : map is_known (0 ∷ 75 ∷ 76 ∷ 80 ∷ 81 ∷ 96 ∷ 97 ∷ 0x62 ∷ 0x63 ∷ 0x64 ∷ 0x65 ∷ 0x66 ∷ 0x67 ∷ 0x68 ∷ 0x69 ∷ 0x74 ∷ 0x75 ∷ 0x76 ∷ 0x77 ∷ 0x7b ∷ 0x7c ∷ 0x7d ∷ [])
    ≡ true ∷ true ∷ false ∷ false ∷ true ∷ true ∷ false ∷ false ∷ true ∷ true ∷ false ∷ false ∷ true ∷ true ∷ false ∷ false ∷ true ∷ true ∷ false ∷ false ∷ true ∷ false ∷ []
unfolding is_plain
table = refl

table_above : map is_known (0x81 ∷ 0x82 ∷ 0x83 ∷ 0x86 ∷ 0x87 ∷ 0x88 ∷ 0x89 ∷ 0xa8 ∷ 0xa9 ∷ 0xaa ∷ 0xab ∷ 0xac ∷ 0xad ∷ 0xae ∷ 0xaf ∷ 0xb0 ∷ 0xb1 ∷ 0xb2 ∷ 0xb3 ∷ 0xff ∷ [])
    ≡ false ∷ true ∷ false ∷ false ∷ true ∷ true ∷ false ∷ false ∷ true ∷ false ∷ false ∷ true ∷ false ∷ true ∷ false ∷ false ∷ true ∷ true ∷ false ∷ false ∷ []
unfolding is_plain
table_above = refl

-- bytes that an opcode pushes are none: after a push of its own length, PUSHDATA1, PUSHDATA2 and PUSHDATA4
places : map (unknown_in 0 0) (
    [] ∷ (0x93 ∷ []) ∷ (0x51 ∷ 0x93 ∷ 0x68 ∷ 0xad ∷ []) ∷ (0x02 ∷ 0x93 ∷ 0x93 ∷ 0x93 ∷ []) ∷ (0x02 ∷ 0x93 ∷ [])
    ∷ (0x4c ∷ 0x01 ∷ 0x93 ∷ 0x93 ∷ []) ∷ (0x4d ∷ 0x01 ∷ 0x00 ∷ 0x93 ∷ 0x93 ∷ []) ∷ (0x4e ∷ 0x01 ∷ 0x00 ∷ 0x00 ∷ 0x00 ∷ 0x93 ∷ 0x93 ∷ [])
    ∷ (0x4c ∷ []) ∷ (0x4d ∷ 0x00 ∷ 0x01 ∷ 0x93 ∷ []) ∷ []) ≡
    [] ∷ (0 ∷ []) ∷ (1 ∷ 3 ∷ []) ∷ (3 ∷ []) ∷ [] ∷ (0 ∷ 3 ∷ []) ∷ (0 ∷ 4 ∷ []) ∷ (0 ∷ 6 ∷ []) ∷ (0 ∷ []) ∷ (0 ∷ []) ∷ []
unfolding is_plain data_len next_skip placed
places = refl
