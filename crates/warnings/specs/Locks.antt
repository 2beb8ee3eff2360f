-- Relative locks (BIP 68, BIP 112), and absolute ones that no transaction reaches (BIP 65).
use Rattle.std.specs.Prelude.{ℕ, ◌+◌, ◌*◌, ◌%◌, ◌/◌, Bool, false, not, ◌&&◌, ◌||◌, ◌==◌, nat_le, nat_lt, if◌then◌else◌, List, [], ◌∷◌, ◌++◌, length, slice_index, Option, Some, None, option_and_then, option_to_list, max, reverse}
use Rattle.std.specs.List.{list_any}
use Rattle.facts.specs.Symbols.{Fact, Stated}
use Rattle.facts.specs.declared.symbols.FactOver.TheVariants.{Lock, Age}
use Rattle.script.specs.declared.opcode.Op.{Op}
use Rattle.script.specs.declared.opcode.Op.TheVariants.{Push, Number, CheckLockTimeVerify, CheckSequenceVerify}
use Rattle.script.specs.declared.num.Number.{Number as Signed}
use Rattle.script.specs.Number.{number_of}
use Rattle.script.specs.declared.limits.TheConstants.{LOCKTIME_THRESHOLD}
use Rattle.warnings.specs.declared.locks.SequenceLock.{SequenceLock}
use Rattle.warnings.specs.declared.locks.SequenceLock.TheVariants.{Off, Blocks, Units}
use Rattle.warnings.specs.declared.locks.LockWarning.{LockWarning}
use Rattle.warnings.specs.declared.locks.Pushed.{Pushed}
use Rattle.warnings.specs.declared.locks.TurnedLock.{TurnedLock}

-- bit 31 switches the lock off, bit 22 selects units of 512 seconds, and bits 0 to 15 have the age
unfoldable pub sequence_lock : ℕ → SequenceLock
sequence_lock n =
    if n / 2147483648 % 2 == 1 then Off
    else if n / 4194304 % 2 == 1 then Units (n % 65536)
    else Blocks (n % 65536)

-- an age from 1 to 65,535 and, in units of 512 seconds, bit 22
unfoldable pub is_plain : ℕ → Bool
is_plain n = (nat_lt 0 n && nat_lt n 65536) || (nat_lt 4194304 n && nat_lt n 4259840)

-- a number that is not negative
abbrev pub magnitude_of : Signed → Option ℕ
magnitude_of z = if z.negative then None else Some z.magnitude

-- the number that an opcode pushes
unfoldable pub number_pushed : Op → Option ℕ
number_pushed (Number n) = Some n
number_pushed (Push item) = option_and_then magnitude_of (number_of 5 item)
number_pushed op = None

-- the warning about a number, where the opcode at a position asks for it
abbrev pub warning_of : ℕ → ℕ → Option LockWarning
warning_of at n = if is_plain n then None else Some (record { op = at; number = n; lock = sequence_lock n })

unfoldable pub warned_at : ℕ → Option ℕ → Op → Option LockWarning
warned_at at before CheckSequenceVerify = option_and_then (warning_of at) before
warned_at at before op = None

-- the warnings about opcodes, of which the first is at a position, with the number that was pushed right before it
abbrev pub warnings_in : ℕ → Option ℕ → List Op → List LockWarning
warnings_in at before [] = []
warnings_in at before (op ∷ ops) = option_to_list (warned_at at before op) ++ warnings_in (at + 1) (number_pushed op) ops

-- a lock time above 4,294,967,294. Above the next number no transaction has it, since its lock time has 4 bytes (BIP 144). By the next one none is final: that is below no median time past, which has 4
-- bytes too (BIP 113)
abbrev pub is_beyond : Fact → Bool
is_beyond (Lock n) = nat_lt 4294967294 n
is_beyond fact = false

abbrev pub asks_beyond : Stated → Bool
asks_beyond s = s.holds && is_beyond s.fact

-- the path asks for such a lock time
abbrev pub has_unreachable_lock : List Stated → Bool
has_unreachable_lock facts = list_any asks_beyond facts

-- the units of 512 seconds that a fact asks for: of a relative lock with bit 22, the low 16 bits (BIP 68)
abbrev pub units_of : Fact → Option ℕ
units_of (Age n) = if n / 4194304 % 2 == 1 then Some (n % 65536) else None
units_of fact = None

abbrev pub greater : Option ℕ → Option ℕ → Option ℕ
greater None other = other
greater (Some n) None = Some n
greater (Some n) (Some m) = Some (max m n)

-- the greatest number of them that facts ask for
abbrev pub greatest_units : List Stated → Option ℕ
greatest_units [] = None
greatest_units (s ∷ facts) = greater (units_of s.fact) (greatest_units facts)

-- the number of the same bytes from the last to the first: of two bytes the one without a sign, since 52,560 has three in a script
abbrev pub turned_of : List ℕ → Option ℕ
turned_of item =
    if length item == 2 then Some (256 * slice_index item 0 + slice_index item 1)
    else option_and_then magnitude_of (number_of 5 (reverse item))

abbrev pub both_of : Option ℕ → Option ℕ → Option Pushed
both_of (Some n) (Some m) = Some (record { number = n; turned = m })
both_of (Some n) None = None
both_of None m = None

-- what an opcode pushes, if that is a number in both orders
unfoldable pub pushed_by : Op → Option Pushed
pushed_by (Push item) = both_of (option_and_then magnitude_of (number_of 5 item)) (turned_of item)
pushed_by op = None

-- an absolute lock by a height above 5,000,000, which is decades away, or by a time before the first block, 1,231,006,505, which restrains nobody. The other order has a height from 100,000 to
-- 2,000,000, which the chain comes to by 2046, or a time from the first block to 2049. A relative lock of more than 4,032 blocks, which the other order has as 256 to 2,016, or as whole days where this one has none (144 blocks)
unfoldable pub seems_turned : Op → ℕ → ℕ → Bool
seems_turned CheckLockTimeVerify n m =
    nat_lt 5000000 n
    && ((nat_lt n LOCKTIME_THRESHOLD && nat_le 100000 m && nat_le m 2000000) || (nat_lt n 1231006505 && nat_le 1231006505 m && nat_lt m 2500000000))
seems_turned CheckSequenceVerify n m =
    nat_lt 4032 n && nat_lt n 65536 && nat_le 256 m
    && (nat_le m 2016 || (nat_lt m 65536 && m % 144 == 0 && not (n % 144 == 0)))
seems_turned op n m = false

abbrev pub turned_by : ℕ → Op → Pushed → Option TurnedLock
turned_by at op p = if seems_turned op p.number p.turned then Some (record { op = at; number = p.number; turned = p.turned }) else None

unfoldable pub turned_at : ℕ → Option Pushed → Op → Option TurnedLock
turned_at at before op = option_and_then (turned_by at op) before

-- the locks among opcodes, of which the first is at a position, with what was pushed right before it
abbrev pub turned_in : ℕ → Option Pushed → List Op → List TurnedLock
turned_in at before [] = []
turned_in at before (op ∷ ops) = option_to_list (turned_at at before op) ++ turned_in (at + 1) (pushed_by op) ops
