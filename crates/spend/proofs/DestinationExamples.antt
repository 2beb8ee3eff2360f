-- Programs on both sides of each form, and what is none: a script, a key, and an output that nobody can spend.
use Rattle.std.proofs.Common.{◌≡◌, ℕ, List, [], ◌∷◌, ◌++◌, true, false, replicate, map, refl}
use Rattle.spend.specs.Destinations.{is_public_key_hash, is_script_hash, has_rule, is_destination}

abbrev program : ℕ → ℕ → List ℕ
program code size = code ∷ size ∷ replicate size 3

-- between the opcodes stands a push of this many bytes, with this many behind it
abbrev key_hash : ℕ → ℕ → List ℕ → List ℕ
key_hash push size end = 0x76 ∷ 0xa9 ∷ push ∷ (replicate size 3 ++ end)

abbrev script_hash : ℕ → ℕ → ℕ → List ℕ
script_hash push size end = 0xa9 ∷ push ∷ (replicate size 3 ++ end ∷ [])

-- the form, a byte less or more, another push, and another opcode in each place
key_hashes : map is_public_key_hash (key_hash 20 20 (0x88 ∷ 0xac ∷ []) ∷ key_hash 19 19 (0x88 ∷ 0xac ∷ []) ∷ key_hash 21 21 (0x88 ∷ 0xac ∷ []) ∷ key_hash 21 20 (0x88 ∷ 0xac ∷ []) ∷ key_hash 20 20 (0x87 ∷ 0xac ∷ []) ∷ key_hash 20 20 (0x88 ∷ 0xad ∷ [])
    ∷ (0x77 ∷ 0xa9 ∷ 20 ∷ (replicate 20 3 ++ 0x88 ∷ 0xac ∷ [])) ∷ (0x76 ∷ 0xaa ∷ 20 ∷ (replicate 20 3 ++ 0x88 ∷ 0xac ∷ [])) ∷ [])
    ≡ true ∷ false ∷ false ∷ false ∷ false ∷ false ∷ false ∷ false ∷ []
key_hashes = refl

script_hashes : map is_script_hash (script_hash 20 20 0x87 ∷ script_hash 19 19 0x87 ∷ script_hash 21 21 0x87 ∷ script_hash 21 20 0x87 ∷ script_hash 20 20 0x88 ∷ (0xa8 ∷ 20 ∷ (replicate 20 3 ++ 0x87 ∷ [])) ∷ [])
    ≡ true ∷ false ∷ false ∷ false ∷ false ∷ false ∷ []
script_hashes = refl

-- of version 0 with 20 or 32 bytes, and of version 1 with 32; then one less or more, the versions and opcodes beside them, and pay to anchor
programs : map has_rule (program 0 20 ∷ program 0 32 ∷ program 0x51 32 ∷ []) ≡ true ∷ true ∷ true ∷ []
programs = refl

no_programs : map has_rule (program 0 19 ∷ program 0 21 ∷ program 0 31 ∷ program 0 33 ∷ program 0x51 20 ∷ program 0x51 31 ∷ program 0x51 33 ∷ program 0x52 32 ∷ program 0x60 32 ∷ program 0x50 32 ∷ program 0x61 32 ∷ (0x51 ∷ 2 ∷ 0x4e ∷ 0x73 ∷ []) ∷ [])
    ≡ false ∷ false ∷ false ∷ false ∷ false ∷ false ∷ false ∷ false ∷ false ∷ false ∷ false ∷ false ∷ []
no_programs = refl

-- a program of each kind; then one that is cut, none, RETURN with data, a key, and IF 2
destinations : map is_destination (key_hash 20 20 (0x88 ∷ 0xac ∷ []) ∷ script_hash 20 20 0x87 ∷ program 0 20 ∷ []) ≡ true ∷ true ∷ true ∷ []
destinations = refl

no_destinations : map is_destination ((0 ∷ 20 ∷ replicate 19 3) ∷ [] ∷ (0x6a ∷ 4 ∷ replicate 4 3) ∷ (2 ∷ replicate 32 3) ∷ (0x63 ∷ 0x52 ∷ []) ∷ []) ≡ false ∷ false ∷ false ∷ false ∷ false ∷ []
no_destinations = refl
