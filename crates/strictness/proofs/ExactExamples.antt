-- Which branches the walk finds to end as in consensus, worked by hand from BIPs 65, 66, 112, 141 and 147: on both sides of each rule.
use Rattle.std.proofs.Common.{◌≡◌, ℕ, true, false, List, [], ◌∷◌, ◌++◌, map, replicate, refl}
use Rattle.script.specs.declared.opcode.Op.{Op}
use Rattle.script.specs.declared.opcode.Op.TheVariants.{Push, Number, If, NotIf, Else, EndIf, Drop, Swap, Size, EqualVerify, CheckSig, CheckMultiSig, CheckLockTimeVerify, CheckSequenceVerify}
use Rattle.script.specs.Number.{number_of}
use Rattle.script.specs.Token.{is_key}
use Rattle.strictness.specs.Values.{natural_of, is_der}
use Rattle.strictness.specs.Exact.{ends_as_in_consensus}

abbrev key : List ℕ
key = 2 ∷ replicate 32 17

-- a key of 65 bytes, which consensus takes
abbrev check : List Op
check = Push (4 ∷ replicate 64 17) ∷ CheckSig ∷ []

-- a false end, two elements, an item of the witness below one of the script, two numbers that differ, a negative lock, no signature in DER, 21 keys, a full extra item, both branches of an IF, one that is left out, and a length of 521 bytes
exact : map ends_as_in_consensus
    ((Push [] ∷ []) ∷ (Number 1 ∷ Number 1 ∷ []) ∷ (Drop ∷ Push (128 ∷ []) ∷ []) ∷ (Number 1 ∷ Number 2 ∷ EqualVerify ∷ []) ∷ (Push (129 ∷ []) ∷ CheckSequenceVerify ∷ Drop ∷ Number 1 ∷ [])
    ∷ (Number 1 ∷ check) ∷ (Push [] ∷ Push [] ∷ Push (21 ∷ []) ∷ CheckMultiSig ∷ []) ∷ (Number 1 ∷ Push [] ∷ Push key ∷ Number 1 ∷ CheckMultiSig ∷ []) ∷ (If ∷ Push [] ∷ Else ∷ Number 1 ∷ Number 1 ∷ EndIf ∷ [])
    ∷ (Number 1 ∷ NotIf ∷ check ++ EndIf ∷ Push [] ∷ []) ∷ (Size ∷ Push (9 ∷ 2 ∷ []) ∷ EqualVerify ∷ Number 1 ∷ []) ∷ [])
    ≡ replicate 11 true
unfolding number_of is_key natural_of is_der
exact = refl

-- no opcode, a true end, one true branch of an IF, an answer, a key of 65 bytes, a signature in DER, a lock of two bytes under both opcodes, a count with a sign, a branch of an IF, a length of 520 bytes, and a count that the witness gives
inexact : map ends_as_in_consensus
    ([] ∷ (Number 1 ∷ []) ∷ (If ∷ Push [] ∷ Else ∷ Number 1 ∷ EndIf ∷ []) ∷ (Push key ∷ CheckSig ∷ []) ∷ check ∷ (Push (0x30 ∷ 6 ∷ 2 ∷ 1 ∷ 1 ∷ 2 ∷ 1 ∷ 1 ∷ 1 ∷ []) ∷ Swap ∷ CheckSig ∷ [])
    ∷ (Push (1 ∷ 0 ∷ []) ∷ CheckLockTimeVerify ∷ Drop ∷ Push [] ∷ []) ∷ (Push (1 ∷ 0 ∷ []) ∷ CheckSequenceVerify ∷ Drop ∷ Push [] ∷ []) ∷ (Push [] ∷ Push [] ∷ Push (128 ∷ []) ∷ CheckMultiSig ∷ Drop ∷ Push [] ∷ [])
    ∷ (Number 1 ∷ If ∷ check ++ EndIf ∷ Push [] ∷ []) ∷ (Size ∷ Push (8 ∷ 2 ∷ []) ∷ EqualVerify ∷ Drop ∷ Number 1 ∷ []) ∷ (CheckMultiSig ∷ Push [] ∷ Push [] ∷ []) ∷ [])
    ≡ replicate 12 false
unfolding number_of is_key natural_of is_der
inexact = refl
