-- The thresholds that BOLT 3 has ("Dust Limits"), and scripts on both sides of a witness program's form.
use Rattle.std.proofs.Common.{◌≡◌, ℕ, List, [], ◌∷◌, ◌++◌, true, false, replicate, map, refl}
use Rattle.tx.specs.Spelling.{number, compact_size, bytes_with_length, output}
use Rattle.spend.specs.Dust.{is_version, is_witness_program, is_unspendable, dust_threshold}

-- the hash of a key, and of a script; then the programs of version 0, the least and the greatest of later versions, and an output that nobody can spend
abbrev key_hash : List ℕ
key_hash = 0x76 ∷ 0xa9 ∷ 0x14 ∷ (replicate 20 3 ++ 0x88 ∷ 0xac ∷ [])

abbrev script_hash : List ℕ
script_hash = 0xa9 ∷ 0x14 ∷ (replicate 20 3 ++ 0x87 ∷ [])

abbrev program : ℕ → ℕ → List ℕ
program code size = code ∷ size ∷ replicate size 3

-- 240 and 354 are those of programs of 2 and 40 bytes
thresholds : (dust_threshold key_hash ≡ 546)
    × (dust_threshold script_hash ≡ 540)
    × (dust_threshold (program 0 20) ≡ 294)
    × (dust_threshold (program 0 32) ≡ 330)
    × (dust_threshold (program 0x51 32) ≡ 330)
    × (dust_threshold (program 0x60 40) ≡ 354)
    × (dust_threshold (program 0x51 2) ≡ 240)
    × (dust_threshold (0x6a ∷ 1 ∷ 7 ∷ []) ≡ 0)
    × (dust_threshold [] ≡ 471)
    × (dust_threshold (0x51 ∷ []) ≡ 474)
    × (dust_threshold (replicate 252 5) ≡ 1227)
    × (dust_threshold (replicate 253 5) ≡ 1236)
unfolding output number compact_size bytes_with_length
thresholds = (refl, refl, refl, refl, refl, refl, refl, refl, refl, refl, refl, refl)

-- no version, a push of too few or too many, and a push that is not the rest
programs : (map is_version (0 ∷ 1 ∷ 0x4f ∷ 0x50 ∷ 0x51 ∷ 0x60 ∷ 0x61 ∷ []) ≡ true ∷ false ∷ false ∷ false ∷ true ∷ true ∷ false ∷ [])
    × (is_witness_program (program 0 2) ≡ true)
    × (is_witness_program (program 0 1) ≡ false)
    × (is_witness_program (program 0 40) ≡ true)
    × (is_witness_program (program 0 41) ≡ false)
    × (is_witness_program (program 0x50 20) ≡ false)
    × (is_witness_program (0 ∷ 21 ∷ replicate 20 3) ≡ false)
    × (is_witness_program (0 ∷ 19 ∷ replicate 20 3) ≡ false)
programs = (refl, refl, refl, refl, refl, refl, refl, refl)

unspendable : (is_unspendable (0x6a ∷ []) ≡ true) × (is_unspendable (0x6b ∷ []) ≡ false) × (is_unspendable (0x51 ∷ 0x6a ∷ []) ≡ false) × (is_unspendable [] ≡ false)
unspendable = (refl, refl, refl, refl)
