-- Relative locks, by the bits of BIP 68.
use Rattle.std.proofs.Common.{◌≡◌, ℕ, Bool, true, false, [], ◌∷◌, map, refl, Some, None}
use Rattle.script.specs.declared.opcode.Op.TheVariants.{Push, Number, Drop, CheckLockTimeVerify, CheckSequenceVerify}
use Rattle.script.specs.Number.{number_of}
use Rattle.facts.specs.Symbols.{Fact, Stated}
use Rattle.facts.specs.declared.symbols.FactOver.TheVariants.{Lock, Age}
use Rattle.warnings.specs.declared.locks.SequenceLock.{SequenceLock}
use Rattle.warnings.specs.declared.locks.SequenceLock.TheVariants.{Off, Blocks, Units}
use Rattle.warnings.specs.declared.locks.LockWarning.{LockWarning}
use Rattle.warnings.specs.declared.locks.TurnedLock.{TurnedLock}
use Rattle.warnings.specs.Locks.{sequence_lock, is_plain, number_pushed, warned_at, warnings_in, has_unreachable_lock, greatest_units, pushed_by, seems_turned, turned_at, turned_in}

-- bits 0 to 15, 16, 21, 22, 23, 30, 31 and 32
locks : map sequence_lock (
    0 ∷ 1 ∷ 144 ∷ 0xffff ∷ 0x10000 ∷ 0x10001 ∷ 0x200005 ∷ 0x400000 ∷ 0x400001 ∷ 0x40ffff ∷ 0x410001 ∷ 0x800005 ∷ 0x40000005 ∷ 0x7fffffff ∷ 0x80000000 ∷ 0x80000090 ∷ 0x100000005 ∷ []) ≡
    Blocks 0 ∷ Blocks 1 ∷ Blocks 144 ∷ Blocks 0xffff ∷ Blocks 0 ∷ Blocks 1 ∷ Blocks 5 ∷ Units 0 ∷ Units 1 ∷ Units 0xffff ∷ Units 1 ∷ Blocks 5 ∷ Blocks 5 ∷ Units 0xffff ∷ Off ∷ Off ∷ Blocks 5 ∷ []
unfolding sequence_lock
locks = refl

-- what says all that it asks for: 1 to 65,535 blocks, or 1 to 65,535 units
plain : map is_plain (0 ∷ 1 ∷ 0xffff ∷ 0x10000 ∷ 0x3fffff ∷ 0x400000 ∷ 0x400001 ∷ 0x40ffff ∷ 0x410000 ∷ 0x80000000 ∷ [])
    ≡ false ∷ true ∷ true ∷ false ∷ false ∷ false ∷ true ∷ true ∷ false ∷ false ∷ []
unfolding is_plain
plain = refl

abbrev warning : ℕ → ℕ → SequenceLock → LockWarning
warning op number lock = record { op = op; number = number; lock = lock }

-- the number stands right before the opcode: as a push of bytes, or from 1 to 16. CHECKLOCKTIMEVERIFY has no such bits
warnings : map (warnings_in 0 None) (
    (Push (0 ∷ 0 ∷ 1 ∷ []) ∷ CheckSequenceVerify ∷ Drop ∷ Push (0 ∷ 0 ∷ 0 ∷ 0x80 ∷ 0 ∷ []) ∷ CheckSequenceVerify ∷ [])
    ∷ (Push [] ∷ CheckSequenceVerify ∷ []) ∷ (Number 16 ∷ CheckSequenceVerify ∷ []) ∷ (Push (0x90 ∷ 0 ∷ []) ∷ CheckSequenceVerify ∷ [])
    ∷ (Push (0 ∷ 0 ∷ 1 ∷ []) ∷ CheckLockTimeVerify ∷ []) ∷ (CheckSequenceVerify ∷ []) ∷ (Push (0 ∷ 0 ∷ 1 ∷ []) ∷ Drop ∷ CheckSequenceVerify ∷ [])
    ∷ (Push (0 ∷ 0 ∷ 0x81 ∷ []) ∷ CheckSequenceVerify ∷ []) ∷ (Push (0 ∷ 1 ∷ 0 ∷ []) ∷ CheckSequenceVerify ∷ []) ∷ []) ≡
    (warning 1 0x10000 (Blocks 0) ∷ warning 4 0x80000000 Off ∷ []) ∷ (warning 1 0 (Blocks 0) ∷ []) ∷ [] ∷ [] ∷ [] ∷ [] ∷ [] ∷ [] ∷ [] ∷ []
unfolding sequence_lock is_plain number_pushed warned_at number_of
warnings = refl

abbrev stated : Fact → Bool → Stated
stated fact holds = record { fact = fact; holds = holds }

-- the greatest lock time that is reached, the greatest that there is, the next number, one of 5 bytes, one that is to fail, one after another lock, a relative lock, and none
beyond : map has_unreachable_lock (
    (stated (Lock 0xfffffffe) true ∷ []) ∷ (stated (Lock 0xffffffff) true ∷ []) ∷ (stated (Lock 0x100000000) true ∷ []) ∷ (stated (Lock 0x7fffffffff) true ∷ []) ∷ (stated (Lock 0x100000000) false ∷ [])
    ∷ (stated (Lock 500) true ∷ stated (Lock 0x100000001) true ∷ []) ∷ (stated (Age 0x40ffff) true ∷ []) ∷ [] ∷ []) ≡
    false ∷ true ∷ true ∷ true ∷ false ∷ true ∷ false ∷ false ∷ []
beyond = refl

-- no fact, blocks, a lock time, one unit and all of them, bits 16 and 23 beside, bit 23 alone, and the greatest of three, in either order and beside blocks
units : map greatest_units (
    [] ∷ (stated (Age 144) true ∷ []) ∷ (stated (Lock 0x400005) true ∷ []) ∷ (stated (Age 0x400001) true ∷ []) ∷ (stated (Age 0x40ffff) true ∷ []) ∷ (stated (Age 0xc10005) true ∷ []) ∷ (stated (Age 0x800005) true ∷ [])
    ∷ (stated (Age 0x400005) true ∷ stated (Age 0x400090) true ∷ stated (Age 0x400007) true ∷ []) ∷ (stated (Age 0x400090) true ∷ stated (Age 0xffff) true ∷ stated (Age 0x400005) true ∷ []) ∷ []) ≡
    None ∷ None ∷ None ∷ Some 1 ∷ Some 0xffff ∷ Some 5 ∷ None ∷ Some 0x90 ∷ Some 0x90 ∷ []
units = refl

abbrev turned_lock : ℕ → ℕ → ℕ → TurnedLock
turned_lock op number other = record { op = op; number = number; turned = other }

-- height 850,000, a second of 2026, 288 blocks and a year of them, each with the most significant byte first, and the first of them as a script has it; by the other opcode, and with another opcode between; and a number that is
-- not negative in one order alone
turned_round : map (turned_in 0 None) (
    (Push (0x0c ∷ 0xf8 ∷ 0x50 ∷ []) ∷ CheckLockTimeVerify ∷ []) ∷ (Number 1 ∷ Drop ∷ Push (0x6a ∷ 0xb1 ∷ 0x3b ∷ 0x10 ∷ []) ∷ CheckLockTimeVerify ∷ []) ∷ (Push (0x01 ∷ 0x20 ∷ []) ∷ CheckSequenceVerify ∷ [])
    ∷ (Push (0xcd ∷ 0x50 ∷ []) ∷ CheckSequenceVerify ∷ [])
    ∷ (Push (0x50 ∷ 0xf8 ∷ 0x0c ∷ []) ∷ CheckLockTimeVerify ∷ []) ∷ (Push (0x0c ∷ 0xf8 ∷ 0x50 ∷ []) ∷ CheckSequenceVerify ∷ []) ∷ (Push (0x01 ∷ 0x20 ∷ []) ∷ CheckLockTimeVerify ∷ [])
    ∷ (Push (0x01 ∷ 0x20 ∷ []) ∷ Drop ∷ CheckSequenceVerify ∷ []) ∷ (Push (0x90 ∷ 0x20 ∷ []) ∷ CheckSequenceVerify ∷ []) ∷ (Push (0x01 ∷ 0x90 ∷ []) ∷ CheckSequenceVerify ∷ []) ∷ []) ≡
    (turned_lock 1 5306380 850000 ∷ []) ∷ (turned_lock 3 272347498 1789999888 ∷ []) ∷ (turned_lock 1 8193 288 ∷ []) ∷ (turned_lock 1 20685 52560 ∷ []) ∷ [] ∷ [] ∷ [] ∷ [] ∷ [] ∷ [] ∷ []
unfolding pushed_by seems_turned turned_at number_of
turned_round = refl

-- both sides of each bound: of heights, of times, and of ages
turned_heights : map (λ (p : ℕ × ℕ). seems_turned CheckLockTimeVerify p.0 p.1) ((5000000, 850000) ∷ (5000001, 850000) ∷ (499999999, 850000) ∷ (500000000, 850000) ∷ (5000001, 99999) ∷ (5000001, 100000) ∷ (5000001, 2000000) ∷ (5000001, 2000001) ∷ (5000001, 4279116) ∷ [])
    ≡ false ∷ true ∷ true ∷ false ∷ false ∷ true ∷ true ∷ false ∷ false ∷ []
unfolding seems_turned
turned_heights = refl

turned_times : map (λ (p : ℕ × ℕ). seems_turned CheckLockTimeVerify p.0 p.1) ((5000000, 1789999888) ∷ (5000001, 1789999888) ∷ (1231006504, 1789999888) ∷ (1231006505, 1789999888) ∷ (5000001, 1231006504) ∷ (5000001, 1231006505) ∷ (5000001, 2499999999) ∷ (5000001, 2500000000) ∷ [])
    ≡ false ∷ true ∷ true ∷ false ∷ false ∷ true ∷ true ∷ false ∷ []
unfolding seems_turned
turned_times = refl

turned_ages : map (λ (p : ℕ × ℕ). seems_turned CheckSequenceVerify p.0 p.1) ((4032, 288) ∷ (4033, 288) ∷ (65535, 288) ∷ (65536, 288) ∷ (8193, 255) ∷ (8193, 256) ∷ (8193, 2016) ∷ (8193, 2017) ∷ (20685, 52560) ∷ (20685, 52559) ∷ (24624, 12384) ∷ (20685, 65520) ∷ (20685, 65664) ∷ (20685, 144) ∷ (4032, 52560) ∷ (65537, 52560) ∷ [])
    ≡ false ∷ true ∷ true ∷ false ∷ false ∷ true ∷ true ∷ false ∷ true ∷ false ∷ false ∷ true ∷ false ∷ false ∷ false ∷ false ∷ []
unfolding seems_turned
turned_ages = refl
