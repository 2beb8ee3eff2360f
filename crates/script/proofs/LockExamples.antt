-- The checks of locks: BIP 65 for those of a transaction, BIP 68 and 112 for those of an input.
use Rattle.std.proofs.Common.{◌≡◌, ℕ, Bool, true, false, [], ◌∷◌, map, replicate, refl}
use Rattle.script.specs.declared.spending.Spend.{Spend}
use Rattle.script.specs.Step.{age_passes, lock_passes}

abbrev timed : ℕ → ℕ → Spend
timed lock_time sequence = record { version = 2; lock_time = lock_time; sequence = sequence; digest = replicate 32 7 }

-- the check of a lock, under a transaction's lock time
abbrev under : ℕ → ℕ → Bool
under n lock_time = lock_passes (timed lock_time 0) n

-- heights against heights
heights : (under 0 0 ≡ true) × (under 500 499 ≡ false) × (under 500 500 ≡ true) × (under 500 501 ≡ true) × (under 499999999 499999998 ≡ false) × (under 499999999 499999999 ≡ true)
unfolding lock_passes
heights = (refl, refl, refl, refl, refl, refl)

-- times against times: from 500,000,000 on
times : (under 500000000 500000000 ≡ true) × (under 500000000 500000001 ≡ true) × (under 500000001 500000000 ≡ false) × (under 4294967295 4294967295 ≡ true) × (under 549755813887 4294967295 ≡ false)
unfolding lock_passes
times = (refl, refl, refl, refl, refl)

-- a time against a height, and a height against a time
mixed : (under 499999999 500000000 ≡ false) × (under 0 500000000 ≡ false) × (under 0 4294967295 ≡ false) × (under 500000000 499999999 ≡ false)
unfolding lock_passes
mixed = (refl, refl, refl, refl)

-- CHECKLOCKTIMEVERIFY fails for an input with the greatest sequence, and passes for any other
final : map (λ sequence. lock_passes (timed 500 sequence) 500) (0xffffffff ∷ 0xfffffffe ∷ 0x7fffffff ∷ 0x80000000 ∷ 0 ∷ []) ≡ false ∷ true ∷ true ∷ true ∷ true ∷ []
unfolding lock_passes
final = refl

abbrev aged : ℕ → ℕ → Spend
aged version sequence = record { version = version; lock_time = 0; sequence = sequence; digest = replicate 32 7 }

-- the check of an age, under the sequence of an input in a transaction of version 2
abbrev of_age : ℕ → ℕ → Bool
of_age n sequence = age_passes (aged 2 sequence) n

blocks : (of_age 0 0 ≡ true) × (of_age 144 143 ≡ false) × (of_age 144 144 ≡ true) × (of_age 144 145 ≡ true) × (of_age 0xffff 0xfffe ≡ false) × (of_age 0xffff 0xffff ≡ true)
unfolding age_passes
blocks = (refl, refl, refl, refl, refl, refl)

-- in units of 512 seconds, on both sides: bit 22
seconds : (of_age 0x400090 0x40008f ≡ false) × (of_age 0x400090 0x400090 ≡ true) × (of_age 0x400000 0xffff ≡ false) × (of_age 0 0x400000 ≡ false) × (of_age 0x400090 0x90 ≡ false) × (of_age 0x90 0x400090 ≡ false)
unfolding age_passes
seconds = (refl, refl, refl, refl, refl, refl)

-- the low 16 bits are compared; the bits between them and bit 22, and those above it, are ignored
read_bits : (of_age 0x8000 0 ≡ false) × (of_age 0x8000 0x8000 ≡ true) × (of_age 0x10000 0 ≡ true) × (of_age 1 0x10000 ≡ false) × (of_age 0x200000 0 ≡ true) × (of_age 1 0x200000 ≡ false) × (of_age 0x800000 0 ≡ true) × (of_age 1 0x800000 ≡ false) × (of_age 0x100000001 1 ≡ true) × (of_age 0x100000001 0 ≡ false)
unfolding age_passes
read_bits = (refl, refl, refl, refl, refl, refl, refl, refl, refl, refl)

-- bit 31 of the number disables the check, whatever the version and the sequence are; bit 30 does not
switched_off : (of_age 0x80000090 0 ≡ true) × (of_age 0x80000090 0xffffffff ≡ true) × (age_passes (aged 1 0) 0x80000090 ≡ true) × (age_passes (aged 0 0xffffffff) 0x80000000 ≡ true) × (of_age 0x40000001 0 ≡ false) × (of_age 0x40000001 1 ≡ true) × (of_age 0x100000090 0 ≡ false)
unfolding age_passes
switched_off = (refl, refl, refl, refl, refl, refl, refl)

-- bit 31 of the sequence says that the input has no lock; bit 30 does not
without_lock : (of_age 0 0x80000000 ≡ false) × (of_age 0 0x8000ffff ≡ false) × (of_age 0 0xffffffff ≡ false) × (of_age 1 0x40000001 ≡ true) × (of_age 1 0x7fbfffff ≡ true)
unfolding age_passes
without_lock = (refl, refl, refl, refl, refl)

-- relative locks apply from version 2 on
versions : map (λ version. age_passes (aged version 144) 144) (0 ∷ 1 ∷ 2 ∷ 3 ∷ 0xffffffff ∷ []) ≡ false ∷ false ∷ true ∷ true ∷ true ∷ []
unfolding age_passes
versions = refl
