-- Absolute locks that hold nobody up, or nearly for ever, by Bitcoin's block 481,824 (BIP 141) and the calendar.
use Rattle.std.proofs.Common.{◌≡◌, ℕ, [], ◌∷◌, map, refl, Some, None}
use Rattle.script.specs.declared.opcode.Op.TheVariants.{Push, Number, Drop, CheckLockTimeVerify, CheckSequenceVerify}
use Rattle.script.specs.Number.{number_of}
use Rattle.warnings.specs.declared.doubts.LockDoubt.{LockDoubt}
use Rattle.warnings.specs.declared.doubts.LockDoubt.TheVariants.{Passed, FarHeight, FarTime}
use Rattle.warnings.specs.declared.doubts.DoubtfulLock.{DoubtfulLock}
use Rattle.warnings.specs.Locks.{number_pushed}
use Rattle.warnings.specs.Doubts.{doubt_of, doubt_at, doubts_in}

-- both sides of each bound of heights
heights : map doubt_of (0 ∷ 144 ∷ 481823 ∷ 481824 ∷ 850000 ∷ 5000000 ∷ 5000001 ∷ 173288880 ∷ 499999999 ∷ [])
    ≡ Some Passed ∷ Some Passed ∷ Some Passed ∷ None ∷ None ∷ None ∷ Some FarHeight ∷ Some FarHeight ∷ Some FarHeight ∷ []
unfolding doubt_of
heights = refl

-- both sides of each bound of times: block 481,824 has the second 1,503,539,857, and 2100 begins with 4,102,444,800
times : map doubt_of (500000000 ∷ 1503539856 ∷ 1503539857 ∷ 1789999888 ∷ 4102444799 ∷ 4102444800 ∷ 4294967294 ∷ 4294967295 ∷ 4294967296 ∷ [])
    ≡ Some Passed ∷ Some Passed ∷ None ∷ None ∷ None ∷ Some FarTime ∷ Some FarTime ∷ None ∷ None ∷ []
unfolding doubt_of
times = refl

abbrev lock : ℕ → ℕ → LockDoubt → DoubtfulLock
lock op number doubt = record { op = op; number = number; doubt = doubt }

-- 144 and 499,999,999 after a number of its own, a second of 2026, 0 and 16; 144 by the other opcode, with one between, and before no opcode
found : map (doubts_in 0 None) (
    (Push (0x90 ∷ 0 ∷ []) ∷ CheckLockTimeVerify ∷ Drop ∷ Push (0xff ∷ 0x64 ∷ 0xcd ∷ 0x1d ∷ []) ∷ CheckLockTimeVerify ∷ []) ∷ (Push (0x10 ∷ 0x3b ∷ 0xb1 ∷ 0x6a ∷ []) ∷ CheckLockTimeVerify ∷ [])
    ∷ (Push [] ∷ CheckLockTimeVerify ∷ []) ∷ (Number 16 ∷ CheckLockTimeVerify ∷ []) ∷ (Push (0x90 ∷ 0 ∷ []) ∷ CheckSequenceVerify ∷ []) ∷ (Push (0x90 ∷ 0 ∷ []) ∷ Drop ∷ CheckLockTimeVerify ∷ []) ∷ (CheckLockTimeVerify ∷ []) ∷ []) ≡
    (lock 1 144 Passed ∷ lock 4 499999999 FarHeight ∷ []) ∷ [] ∷ (lock 1 0 Passed ∷ []) ∷ (lock 1 16 Passed ∷ []) ∷ [] ∷ [] ∷ [] ∷ []
unfolding number_pushed doubt_at doubt_of number_of
found = refl
