-- The opcodes of Bitcoin that are not in the table.
use Rattle.std.specs.Prelude.{ℕ, ◌+◌, ◌-◌, ◌*◌, Bool, ◌&&◌, ◌||◌, not, ◌==◌, nat_le, nat_lt, if◌then◌else◌, List, [], ◌∷◌, ◌++◌, slice_index}

-- IF, NOTIF, ELSE, ENDIF, DROP, DUP, SWAP, SIZE, EQUAL, EQUALVERIFY, HASH160, CHECKSIG, CHECKMULTISIG, CHECKLOCKTIMEVERIFY, CHECKSEQUENCEVERIFY
unfoldable pub is_plain : ℕ → Bool
is_plain b =
    b == 0x63 || b == 0x64 || b == 0x67 || b == 0x68 || b == 0x75 || b == 0x76 || b == 0x7c || b == 0x82
    || b == 0x87 || b == 0x88 || b == 0xa9 || b == 0xac || b == 0xae || b == 0xb1 || b == 0xb2

-- a push of at most 75 bytes, a number from 1 to 16, or one of these
abbrev pub is_known : ℕ → Bool
is_known b = nat_le b 75 || (nat_le 81 b && nat_le b 96) || is_plain b

-- how many bytes belong to an opcode of Bitcoin: a push's own length, or that which follows PUSHDATA1, PUSHDATA2 or PUSHDATA4, little-endian, in 1, 2 or 4 bytes
unfoldable pub data_len : ℕ → List ℕ → ℕ
data_len b rest =
    if nat_le b 75 then b
    else if b == 76 then 1 + slice_index rest 0
    else if b == 77 then 2 + slice_index rest 0 + 256 * slice_index rest 1
    else if b == 78 then 4 + slice_index rest 0 + 256 * slice_index rest 1 + 65536 * slice_index rest 2 + 16777216 * slice_index rest 3
    else 0

-- the position of a byte, where it is an opcode that is not in the table; the first `skip` bytes belong to the opcode before
unfoldable pub placed : ℕ → ℕ → ℕ → List ℕ
placed skip at b = if skip == 0 && not (is_known b) then at ∷ [] else []

-- how many of the bytes after a byte belong to the opcode before them
unfoldable pub next_skip : ℕ → ℕ → List ℕ → ℕ
next_skip skip b rest = if nat_lt 0 skip then skip - 1 else data_len b rest

-- the positions of the opcodes that are not in the table, in bytes from `at` on, where the first `skip` bytes belong to the opcode before them
abbrev pub unknown_in : ℕ → ℕ → List ℕ → List ℕ
unknown_in skip at [] = []
unknown_in skip at (b ∷ rest) = placed skip at b ++ unknown_in (next_skip skip b rest) (at + 1) rest
