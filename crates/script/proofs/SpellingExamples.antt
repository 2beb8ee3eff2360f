-- Opcodes and their bytes, and the numbers of refusals.
use Rattle.std.proofs.Common.{◌≡◌, ◌<◌, ◌≤◌, [], ◌∷◌, map, replicate, refl, lit≤, lit<, arith}
use Rattle.script.specs.declared.opcode.Op.TheVariants.{Push, Number, If, NotIf, Else, EndIf, Drop, Dup, Swap, Size, Equal, EqualVerify, Hash160, CheckSig, CheckMultiSig, CheckLockTimeVerify, CheckSequenceVerify}
use Rattle.script.specs.declared.parse.ParseError.TheVariants.{NoMemory, BadOpcode, Truncated, TooLong}
use Rattle.script.specs.declared.stops.Cause.TheVariants.{MissingOperand, FailedCheck, OpenBranch, TooManyOps, StackTooTall, ItemTooLong, NotOneValue, FalseEnd}
use Rattle.script.specs.declared.stops.Kind.TheVariants.{Verify, Sequence}
use Rattle.script.specs.Spelling.{code_of, payload_of, IsOp, spelling, IsFault}
use Rattle.script.specs.Refusals.{refusal_number, stop_number}

-- the opcodes' bytes, as Bitcoin's list of opcodes has them
codes : map code_of (Push [] ∷ Push (9 ∷ []) ∷ Push (replicate 75 9) ∷ Number 1 ∷ Number 2 ∷ Number 16 ∷ If ∷ NotIf ∷ Else ∷ EndIf ∷ Drop ∷ Dup ∷ Swap ∷ Size ∷ Equal ∷ EqualVerify ∷ Hash160 ∷ CheckSig ∷ CheckMultiSig ∷ CheckLockTimeVerify ∷ CheckSequenceVerify ∷ []) ≡
    0x00 ∷ 0x01 ∷ 0x4b ∷ 0x51 ∷ 0x52 ∷ 0x60 ∷ 0x63 ∷ 0x64 ∷ 0x67 ∷ 0x68 ∷ 0x75 ∷ 0x76 ∷ 0x7c ∷ 0x82 ∷ 0x87 ∷ 0x88 ∷ 0xa9 ∷ 0xac ∷ 0xae ∷ 0xb1 ∷ 0xb2 ∷ []
codes = refl

payloads : map payload_of (Push [] ∷ Push (8 ∷ 9 ∷ []) ∷ Number 1 ∷ If ∷ CheckSig ∷ []) ≡ [] ∷ (8 ∷ 9 ∷ []) ∷ [] ∷ [] ∷ [] ∷ []
payloads = refl

-- a push has at most 75 bytes, and a number is from 1 to 16
longest_push : IsOp (Push (replicate 75 0))
longest_push = lit≤ tt

no_longer_push : IsOp (Push (replicate 76 0)) → ⊥
no_longer_push h = omega (arith, h)

numbers : IsOp (Number 1) × IsOp (Number 16)
numbers = ((lit≤ tt, lit≤ tt), (lit≤ tt, lit≤ tt))

no_zero : IsOp (Number 0) → ⊥
no_zero h = omega (arith, h.0)

no_seventeen : IsOp (Number 17) → ⊥
no_seventeen h = omega (arith, h.1)

-- the to_local output of BOLT 3 with a delay of 144 blocks, but for its keys' length
to_local : spelling (If ∷ Push (2 ∷ 9 ∷ []) ∷ Else ∷ Push (0x90 ∷ 0 ∷ []) ∷ CheckSequenceVerify ∷ Drop ∷ Push (3 ∷ 8 ∷ []) ∷ EndIf ∷ CheckSig ∷ []) ≡ 0x63 ∷ 0x02 ∷ 2 ∷ 9 ∷ 0x67 ∷ 0x02 ∷ 0x90 ∷ 0x00 ∷ 0xb2 ∷ 0x75 ∷ 0x02 ∷ 3 ∷ 8 ∷ 0x68 ∷ 0xac ∷ []
to_local = refl

-- more than 10,000 bytes are refused
too_long : IsFault (replicate 10001 0x51) TooLong
too_long = lit< tt

not_too_long : IsFault (replicate 10000 0x51) TooLong → ⊥
not_too_long h = omega (arith, h)

parse_numbers : map refusal_number (NoMemory ∷ BadOpcode 9 ∷ Truncated 9 ∷ TooLong ∷ []) ≡ 0 ∷ 1 ∷ 2 ∷ 3 ∷ []
parse_numbers = refl

stop_numbers : map stop_number (MissingOperand ∷ FailedCheck Verify ∷ FailedCheck Sequence ∷ OpenBranch ∷ TooManyOps ∷ StackTooTall ∷ ItemTooLong ∷ NotOneValue ∷ FalseEnd ∷ []) ≡ 1 ∷ 2 ∷ 2 ∷ 3 ∷ 4 ∷ 5 ∷ 6 ∷ 7 ∷ 8 ∷ []
stop_numbers = refl
