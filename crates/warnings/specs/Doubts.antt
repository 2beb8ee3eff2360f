-- Absolute locks that hold nobody up, or nearly for ever (BIP 65).
use Rattle.std.specs.Prelude.{ℕ, ◌+◌, ◌&&◌, nat_le, nat_lt, if◌then◌else◌, List, [], ◌∷◌, ◌++◌, Option, Some, None, option_and_then, option_map, option_to_list}
use Rattle.script.specs.declared.opcode.Op.{Op}
use Rattle.script.specs.declared.opcode.Op.TheVariants.{CheckLockTimeVerify}
use Rattle.script.specs.declared.limits.TheConstants.{LOCKTIME_THRESHOLD}
use Rattle.warnings.specs.Locks.{number_pushed}
use Rattle.warnings.specs.declared.doubts.LockDoubt.{LockDoubt}
use Rattle.warnings.specs.declared.doubts.LockDoubt.TheVariants.{Passed, FarHeight, FarTime}
use Rattle.warnings.specs.declared.doubts.DoubtfulLock.{DoubtfulLock}

-- BIP 141 holds from block 481,824 on, whose time is 1,503,539,857: before it no output was guarded by a witness script. Height 5,000,000 is decades away, and 4,102,444,800 is the first
-- second of 2100. From 4,294,967,295 on nobody spends at all (`has_unreachable_lock`)
unfoldable pub doubt_of : ℕ → Option LockDoubt
doubt_of n =
    if nat_lt n LOCKTIME_THRESHOLD then (if nat_lt n 481824 then Some Passed else if nat_lt 5000000 n then Some FarHeight else None)
    else if nat_lt n 1503539857 then Some Passed
    else if nat_le 4102444800 n && nat_lt n 4294967295 then Some FarTime
    else None

-- the lock of a number, if that is doubtful
abbrev pub doubtful : ℕ → ℕ → Option DoubtfulLock
doubtful at n = option_map (λ doubt. record { op = at; number = n; doubt = doubt }) (doubt_of n)

unfoldable pub doubt_at : ℕ → Option ℕ → Op → Option DoubtfulLock
doubt_at at before CheckLockTimeVerify = option_and_then (doubtful at) before
doubt_at at before op = None

-- the locks among opcodes, of which the first is at a position, with the number that was pushed right before it
abbrev pub doubts_in : ℕ → Option ℕ → List Op → List DoubtfulLock
doubts_in at before [] = []
doubts_in at before (op ∷ ops) = option_to_list (doubt_at at before op) ++ doubts_in (at + 1) (number_pushed op) ops
