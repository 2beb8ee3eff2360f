-- Programs of outputs, from the test vectors of BIP 173 and BIP 350, and bytes that differ from them by one.
use Rattle.std.proofs.Common.{◌≡◌, ℕ, List, [], ◌∷◌, ◌++◌, map, refl, Some, None}
use Rattle.std.specs.Prelude.{replicate}
use Rattle.warnings.specs.declared.looks.Look.TheVariants.{KeyHash, ScriptHash, Key, WitnessKeyHash, WitnessScriptHash, Taproot, WitnessProgram, Transaction, Psbt}
use Rattle.warnings.specs.Looks.{look_of, length_before, is_key_hash, is_script_hash, is_key, witness_version, kind_of, program_of, is_psbt, is_transaction}

-- the hash of the key in BIP 173, and its script hash in a network for tests
abbrev key_hash : List ℕ
key_hash = 0x75 ∷ 0x1e ∷ 0x76 ∷ 0xe8 ∷ 0x19 ∷ 0x91 ∷ 0x96 ∷ 0xd4 ∷ 0x54 ∷ 0x94 ∷ 0x1c ∷ 0x45 ∷ 0xd1 ∷ 0xb3 ∷ 0xa3 ∷ 0x23 ∷ 0xf1 ∷ 0x43 ∷ 0x3b ∷ 0xd6 ∷ []

abbrev script_hash : List ℕ
script_hash =
    0x18 ∷ 0x63 ∷ 0x14 ∷ 0x3c ∷ 0x14 ∷ 0xc5 ∷ 0x16 ∷ 0x68 ∷ 0x04 ∷ 0xbd ∷ 0x19 ∷ 0x20 ∷ 0x33 ∷ 0x56 ∷ 0xda ∷ 0x13
    ∷ 0x6c ∷ 0x98 ∷ 0x56 ∷ 0x78 ∷ 0xcd ∷ 0x4d ∷ 0x27 ∷ 0xa1 ∷ 0xb8 ∷ 0xc6 ∷ 0x32 ∷ 0x96 ∷ 0x04 ∷ 0x90 ∷ 0x32 ∷ 0x62 ∷ []

-- the programs of these addresses: of versions 0, 0, 1 (40 bytes), 16 (2 bytes), 2 (16 bytes), 1 (32 bytes)
programs : map look_of (
    (0x00 ∷ 0x14 ∷ key_hash) ∷ (0x00 ∷ 0x20 ∷ script_hash) ∷ (0x51 ∷ 0x28 ∷ (key_hash ++ key_hash)) ∷ (0x60 ∷ 0x02 ∷ 0x75 ∷ 0x1e ∷ [])
    ∷ (0x52 ∷ 0x10 ∷ replicate 16 7) ∷ (0x51 ∷ 0x20 ∷ script_hash) ∷ []) ≡
    Some WitnessKeyHash ∷ Some WitnessScriptHash ∷ Some (WitnessProgram 1) ∷ Some (WitnessProgram 16) ∷ Some (WitnessProgram 2) ∷ Some Taproot ∷ []
unfolding is_key_hash is_script_hash is_key witness_version kind_of program_of is_psbt is_transaction
programs = refl

-- a version is 00 or 51 to 60, and a program has 2 to 40 bytes, exactly as its push says; version 0 of another length is one that BIP 141 refuses
near_programs : map look_of (
    (0x01 ∷ 0x14 ∷ key_hash) ∷ (0x50 ∷ 0x14 ∷ key_hash) ∷ (0x61 ∷ 0x14 ∷ key_hash) ∷ (0x00 ∷ 0x15 ∷ key_hash) ∷ (0x00 ∷ 0x13 ∷ key_hash)
    ∷ (0x51 ∷ 0x01 ∷ 0x07 ∷ []) ∷ (0x51 ∷ 0x29 ∷ replicate 41 7) ∷ (0x00 ∷ 0x28 ∷ replicate 40 7) ∷ (0x00 ∷ []) ∷ [] ∷ []) ≡
    None ∷ None ∷ None ∷ None ∷ None ∷ None ∷ None ∷ Some (WitnessProgram 0) ∷ None ∷ None ∷ []
unfolding is_key_hash is_script_hash is_key witness_version kind_of program_of is_psbt is_transaction
near_programs = refl

-- the old forms, and the same with a byte more, a byte less, or another one
old_programs : map look_of (
    (0x76 ∷ 0xa9 ∷ 0x14 ∷ (key_hash ++ 0x88 ∷ 0xac ∷ [])) ∷ (0xa9 ∷ 0x14 ∷ (key_hash ++ 0x87 ∷ [])) ∷ (0x41 ∷ 0x04 ∷ (replicate 64 7 ++ 0xac ∷ []))
    ∷ (0x76 ∷ 0xa9 ∷ 0x14 ∷ (key_hash ++ 0x00 ∷ 0x88 ∷ 0xac ∷ [])) ∷ (0x76 ∷ 0xa9 ∷ 0x14 ∷ (key_hash ++ 0x88 ∷ 0xad ∷ []))
    ∷ (0xa9 ∷ 0x14 ∷ (key_hash ++ 0x88 ∷ [])) ∷ (0xa8 ∷ 0x14 ∷ (key_hash ++ 0x87 ∷ [])) ∷ (0x41 ∷ 0x02 ∷ (replicate 64 7 ++ 0xac ∷ []))
    ∷ (0x21 ∷ 0x02 ∷ (replicate 32 7 ++ 0xac ∷ [])) ∷ []) ≡
    Some KeyHash ∷ Some ScriptHash ∷ Some Key ∷ None ∷ None ∷ None ∷ None ∷ None ∷ None ∷ []
unfolding is_key_hash is_script_hash is_key witness_version kind_of program_of is_psbt is_transaction
old_programs = refl

-- the magic bytes of a PSBT (BIP 174). A transaction has a version from 1 to 3, then its inputs' number, or marker and flag (BIP 144), and 60 bytes at least
envelopes : map look_of (
    (0x70 ∷ 0x73 ∷ 0x62 ∷ 0x74 ∷ 0xff ∷ []) ∷ (0x70 ∷ 0x73 ∷ 0x62 ∷ 0x74 ∷ 0x00 ∷ [])
    ∷ (1 ∷ 0 ∷ 0 ∷ 0 ∷ 2 ∷ replicate 55 7) ∷ (2 ∷ 0 ∷ 0 ∷ 0 ∷ 0 ∷ 1 ∷ replicate 54 7) ∷ (3 ∷ 0 ∷ 0 ∷ 0 ∷ 1 ∷ replicate 55 7)
    ∷ (2 ∷ 0 ∷ 0 ∷ 0 ∷ 1 ∷ replicate 54 7) ∷ (0 ∷ 0 ∷ 0 ∷ 0 ∷ 1 ∷ replicate 55 7) ∷ (4 ∷ 0 ∷ 0 ∷ 0 ∷ 1 ∷ replicate 55 7)
    ∷ (2 ∷ 0 ∷ 0 ∷ 1 ∷ 1 ∷ replicate 55 7) ∷ (2 ∷ 0 ∷ 0 ∷ 0 ∷ 0 ∷ 2 ∷ replicate 54 7) ∷ []) ≡
    Some Psbt ∷ None ∷ Some Transaction ∷ Some Transaction ∷ Some Transaction ∷ None ∷ None ∷ None ∷ None ∷ None ∷ []
unfolding is_key_hash is_script_hash is_key witness_version kind_of program_of is_psbt is_transaction
envelopes = refl

-- no byte, a length of none, lengths of 1 and of one byte more than there are, 252 and 253 in one byte, 253 and 300 in two, and 300 with the bytes turned round
lengths : map length_before (
    [] ∷ (0 ∷ []) ∷ (1 ∷ 0x51 ∷ []) ∷ (2 ∷ 0x51 ∷ []) ∷ (252 ∷ replicate 252 7) ∷ (253 ∷ replicate 253 7) ∷ (253 ∷ 253 ∷ 0 ∷ replicate 253 7) ∷ (253 ∷ 44 ∷ 1 ∷ replicate 300 7) ∷ (253 ∷ 1 ∷ 44 ∷ replicate 300 7) ∷ []) ≡
    None ∷ None ∷ Some 1 ∷ None ∷ Some 1 ∷ None ∷ Some 3 ∷ Some 3 ∷ None ∷ []
unfolding length_before
lengths = refl
