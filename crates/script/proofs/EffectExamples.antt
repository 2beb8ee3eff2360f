-- What each opcode does when it runs: its operands, its checks in their order, and what it leaves (BIP 65, 112, 141, 147).
use Rattle.std.proofs.Common.{◌≡◌, ℕ, true, false, List, [], ◌∷◌, ◌++◌, map, replicate, refl, Result, Ok, Err}
use Rattle.digest.specs.Hash.{hash160}
use Rattle.script.specs.declared.opcode.Op.{Op}
use Rattle.script.specs.declared.opcode.Op.TheVariants.{Push, Number as SmallNumber, If, NotIf, Else, EndIf, Drop, Dup, Swap, Size, Equal, EqualVerify, Hash160, CheckSig, CheckMultiSig, CheckLockTimeVerify, CheckSequenceVerify}
use Rattle.script.specs.declared.spending.Spend.{Spend}
use Rattle.script.specs.declared.stops.Kind.{Kind}
use Rattle.script.specs.declared.stops.Kind.TheVariants.{Verify, Number, KeyForm, TokenForm, LockTime, Sequence}
use Rattle.script.specs.declared.stops.Cause.{Cause}
use Rattle.script.specs.declared.stops.Cause.TheVariants.{MissingOperand, FailedCheck}
use Rattle.script.specs.Token.{token_of, is_key, is_token, is_signature}
use Rattle.script.specs.Number.{number_of, minimal_bytes_of, digits}
use Rattle.script.specs.declared.jumps.Jump.{Jump}
use Rattle.script.specs.declared.jumps.Jump.TheVariants.{Next, AfterElse, AfterEndIf}
use Rattle.script.specs.Step.{Elements, Effect, effect, multi_sig, truth, flag, lock_passes, age_passes}

-- the empty item and zero bytes are false, and so are zero bytes followed by 80; 80 at any other position is true
false_items : map truth ([] ∷ (0 ∷ []) ∷ (0x80 ∷ []) ∷ (0 ∷ 0 ∷ []) ∷ (0 ∷ 0x80 ∷ []) ∷ (0 ∷ 0 ∷ 0 ∷ []) ∷ (0 ∷ 0 ∷ 0x80 ∷ []) ∷ []) ≡ false ∷ false ∷ false ∷ false ∷ false ∷ false ∷ false ∷ []
false_items = refl

true_items : map truth ((1 ∷ []) ∷ (0x7f ∷ []) ∷ (0x81 ∷ []) ∷ (0xff ∷ []) ∷ (0x80 ∷ 0 ∷ []) ∷ (0x80 ∷ 0x80 ∷ []) ∷ (0 ∷ 1 ∷ []) ∷ (1 ∷ 0 ∷ []) ∷ (1 ∷ 0x80 ∷ []) ∷ (0 ∷ 0x80 ∷ 0 ∷ []) ∷ (0 ∷ 0x80 ∷ 0x80 ∷ []) ∷ (0x80 ∷ 0 ∷ 0x80 ∷ []) ∷ []) ≡
    true ∷ true ∷ true ∷ true ∷ true ∷ true ∷ true ∷ true ∷ true ∷ true ∷ true ∷ true ∷ []
true_items = refl

-- tests push 01 or the empty item
flags : (flag true ≡ 1 ∷ []) × (flag false ≡ [])
flags = (refl, refl)

-- a spend of version 2, lock time 500 and sequence 144
abbrev spend : Spend
spend = record { version = 2; lock_time = 500; sequence = 144; digest = replicate 32 7 }

-- these elements are left, and the run goes on
abbrev leaves : Elements → Result Effect Cause
leaves stack = Ok (record { jump = Next; stack = stack; keys = 0 })

abbrev jumps : Jump → Elements → Result Effect Cause
jumps move stack = Ok (record { jump = move; stack = stack; keys = 0 })

abbrev stops : Cause → Result Effect Cause
stops cause = Err cause

abbrev fails : Kind → Result Effect Cause
fails kind = Err (FailedCheck kind)

-- an element below the operands, which stays
abbrev under : List ℕ
under = 0xee ∷ []

abbrev does : Op → Elements → Result Effect Cause
does op stack = effect spend 0 op stack

pushes : map (λ op. does op (under ∷ [])) (Push [] ∷ Push (0x0a ∷ 0x0b ∷ []) ∷ SmallNumber 1 ∷ SmallNumber 2 ∷ SmallNumber 16 ∷ []) ≡
    leaves ([] ∷ under ∷ []) ∷ leaves ((0x0a ∷ 0x0b ∷ []) ∷ under ∷ []) ∷ leaves ((1 ∷ []) ∷ under ∷ []) ∷ leaves ((2 ∷ []) ∷ under ∷ []) ∷ leaves ((0x10 ∷ []) ∷ under ∷ []) ∷ []
unfolding effect
pushes = refl

branches : (does If ((1 ∷ []) ∷ under ∷ []) ≡ leaves (under ∷ [])) × (does If ([] ∷ under ∷ []) ≡ jumps AfterElse (under ∷ [])) × (does If ((0x80 ∷ []) ∷ under ∷ []) ≡ jumps AfterElse (under ∷ []))
    × (does NotIf ([] ∷ under ∷ []) ≡ leaves (under ∷ [])) × (does NotIf ((1 ∷ []) ∷ under ∷ []) ≡ jumps AfterElse (under ∷ [])) × (does NotIf ((0 ∷ []) ∷ under ∷ []) ≡ leaves (under ∷ []))
    × (does Else (under ∷ []) ≡ jumps AfterEndIf (under ∷ [])) × (does EndIf (under ∷ []) ≡ leaves (under ∷ []))
unfolding effect
branches = (refl, refl, refl, refl, refl, refl, refl, refl)

moves : (does Drop ((1 ∷ []) ∷ under ∷ []) ≡ leaves (under ∷ [])) × (does Dup ((1 ∷ []) ∷ under ∷ []) ≡ leaves ((1 ∷ []) ∷ (1 ∷ []) ∷ under ∷ [])) × (does Swap ((1 ∷ []) ∷ (2 ∷ []) ∷ under ∷ []) ≡ leaves ((2 ∷ []) ∷ (1 ∷ []) ∷ under ∷ []))
unfolding effect
moves = (refl, refl, refl)

-- SIZE keeps its operand
sizes : (does Size ([] ∷ under ∷ []) ≡ leaves ([] ∷ [] ∷ under ∷ [])) × (does Size ((9 ∷ 9 ∷ 9 ∷ []) ∷ under ∷ []) ≡ leaves ((3 ∷ []) ∷ (9 ∷ 9 ∷ 9 ∷ []) ∷ under ∷ [])) × (does Size (replicate 128 9 ∷ []) ≡ leaves ((0x80 ∷ 0 ∷ []) ∷ replicate 128 9 ∷ [])) × (does Size (replicate 520 9 ∷ []) ≡ leaves ((0x08 ∷ 0x02 ∷ []) ∷ replicate 520 9 ∷ []))
unfolding effect minimal_bytes_of digits
sizes = (refl, refl, refl, refl)

equal_items : (does Equal ((1 ∷ 2 ∷ []) ∷ (1 ∷ 2 ∷ []) ∷ under ∷ []) ≡ leaves ((1 ∷ []) ∷ under ∷ [])) × (does Equal ((1 ∷ 2 ∷ []) ∷ (1 ∷ []) ∷ under ∷ []) ≡ leaves ([] ∷ under ∷ [])) × (does Equal ([] ∷ (0 ∷ []) ∷ under ∷ []) ≡ leaves ([] ∷ under ∷ [])) × (does Equal ([] ∷ [] ∷ under ∷ []) ≡ leaves ((1 ∷ []) ∷ under ∷ []))
    × (does EqualVerify ((1 ∷ 2 ∷ []) ∷ (1 ∷ 2 ∷ []) ∷ under ∷ []) ≡ leaves (under ∷ [])) × (does EqualVerify ((1 ∷ 2 ∷ []) ∷ (1 ∷ 3 ∷ []) ∷ under ∷ []) ≡ fails Verify)
unfolding effect
equal_items = (refl, refl, refl, refl, refl, refl)

hashes : (x : List ℕ) → does Hash160 (x ∷ under ∷ []) ≡ leaves (hash160 x ∷ under ∷ [])
unfolding effect
hashes x = refl

-- too few elements; both operands are taken before the first check
missing : map (λ op. does op []) (If ∷ NotIf ∷ Drop ∷ Dup ∷ Swap ∷ Size ∷ Equal ∷ EqualVerify ∷ Hash160 ∷ CheckSig ∷ CheckMultiSig ∷ CheckLockTimeVerify ∷ CheckSequenceVerify ∷ []) ≡ replicate 13 (stops MissingOperand)
unfolding effect multi_sig
missing = refl

missing_second : map (λ op. does op ((1 ∷ []) ∷ [])) (Swap ∷ Equal ∷ EqualVerify ∷ CheckSig ∷ []) ≡ replicate 4 (stops MissingOperand)
unfolding effect
missing_second = refl

abbrev key : ℕ → List ℕ
key b = 2 ∷ replicate 32 b

-- the token of a key over the spend's digest, and one over another
abbrev token : ℕ → List ℕ
token b = 2 ∷ (replicate 32 b ++ (replicate 32 7 ++ 1 ∷ []))

abbrev other_token : ℕ → List ℕ
other_token b = 2 ∷ (replicate 32 b ++ (replicate 32 8 ++ 1 ∷ []))

-- CHECKSIG of a key and a signature
abbrev signs : List ℕ → List ℕ → Result Effect Cause
signs k sig = does CheckSig (k ∷ sig ∷ under ∷ [])

-- an empty signature is of good form, and false
signed : (signs (key 1) (token 1) ≡ leaves ((1 ∷ []) ∷ under ∷ [])) × (signs (key 1) (token 2) ≡ leaves ([] ∷ under ∷ [])) × (signs (key 1) (other_token 1) ≡ leaves ([] ∷ under ∷ [])) × (signs (key 1) [] ≡ leaves ([] ∷ under ∷ []))
    × (signs (3 ∷ replicate 32 1) (3 ∷ (replicate 32 1 ++ (replicate 32 7 ++ 1 ∷ []))) ≡ leaves ((1 ∷ []) ∷ under ∷ []))
unfolding effect token_of is_signature is_token is_key
signed = (refl, refl, refl, refl, refl)

-- the form of the signature is tested, and then that of the key
ill_formed : (signs (key 1) (0 ∷ []) ≡ fails TokenForm) × (signs (key 1) (2 ∷ (replicate 64 7 ++ 2 ∷ [])) ≡ fails TokenForm) × (signs (key 1) (4 ∷ (replicate 64 7 ++ 1 ∷ [])) ≡ fails TokenForm)
    × (signs (4 ∷ replicate 32 1) [] ≡ fails KeyForm) × (signs (4 ∷ replicate 32 1) (token 1) ≡ fails KeyForm) × (signs (2 ∷ replicate 33 1) (token 1) ≡ fails KeyForm) × (signs [] [] ≡ fails KeyForm)
    × (signs (4 ∷ replicate 32 1) (0 ∷ []) ≡ fails TokenForm) × (signs [] (1 ∷ []) ≡ fails TokenForm)
unfolding effect token_of is_signature is_token is_key
ill_formed = (refl, refl, refl, refl, refl, refl, refl, refl, refl)

-- CHECKLOCKTIMEVERIFY leaves its operand: a number of at most five bytes that is not negative and not above the lock time, 500
locks : map (λ x. does CheckLockTimeVerify (x ∷ under ∷ [])) ([] ∷ (0xf4 ∷ 0x01 ∷ []) ∷ (0xf5 ∷ 0x01 ∷ []) ∷ (0x81 ∷ []) ∷ (0 ∷ []) ∷ (0xf4 ∷ 0x01 ∷ 0 ∷ []) ∷ (0xff ∷ 0xff ∷ 0xff ∷ 0xff ∷ 0x7f ∷ []) ∷ (0xff ∷ 0xff ∷ 0xff ∷ 0xff ∷ 0xff ∷ []) ∷ (0 ∷ 0 ∷ 0 ∷ 0 ∷ 0 ∷ 1 ∷ []) ∷ []) ≡
    leaves ([] ∷ under ∷ []) ∷ leaves ((0xf4 ∷ 0x01 ∷ []) ∷ under ∷ []) ∷ fails LockTime ∷ fails LockTime ∷ fails Number ∷ fails Number ∷ fails LockTime ∷ fails LockTime ∷ fails Number ∷ []
unfolding effect number_of lock_passes
locks = refl

-- CHECKSEQUENCEVERIFY does too: not above the sequence, 144
ages : map (λ x. does CheckSequenceVerify (x ∷ under ∷ [])) ([] ∷ (0x90 ∷ 0 ∷ []) ∷ (0x91 ∷ 0 ∷ []) ∷ (0x81 ∷ []) ∷ (0x80 ∷ []) ∷ (0x01 ∷ 0 ∷ []) ∷ (0 ∷ 0 ∷ 0 ∷ 0x80 ∷ 0 ∷ []) ∷ (0xff ∷ 0xff ∷ 0xff ∷ 0xff ∷ 0x7f ∷ []) ∷ (0xff ∷ 0xff ∷ 0xff ∷ 0xff ∷ 0xff ∷ []) ∷ (0 ∷ 0 ∷ 0 ∷ 0 ∷ 0 ∷ 1 ∷ []) ∷ []) ≡
    leaves ([] ∷ under ∷ []) ∷ leaves ((0x90 ∷ 0 ∷ []) ∷ under ∷ []) ∷ fails Sequence ∷ fails Sequence ∷ fails Number ∷ fails Number ∷ leaves ((0 ∷ 0 ∷ 0 ∷ 0x80 ∷ 0 ∷ []) ∷ under ∷ []) ∷ leaves ((0xff ∷ 0xff ∷ 0xff ∷ 0xff ∷ 0x7f ∷ []) ∷ under ∷ []) ∷ fails Sequence ∷ fails Number ∷ []
unfolding effect number_of age_passes
ages = refl
