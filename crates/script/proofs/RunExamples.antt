-- How runs end: what counts, how far a branch jumps, and the order of the faults at one opcode and at the end (BIP 141).
use Rattle.std.proofs.Common.{◌≡◌, ℕ, Bool, true, false, List, [], ◌∷◌, ◌++◌, map, replicate, flat_map, refl, Result, Ok, Err}
use Rattle.script.specs.declared.opcode.Op.{Op}
use Rattle.script.specs.declared.opcode.Op.TheVariants.{Push, Number, If, NotIf, Else, EndIf, Drop, Dup, Swap, Size, Equal, EqualVerify, Hash160, CheckSig, CheckMultiSig, CheckLockTimeVerify, CheckSequenceVerify}
use Rattle.script.specs.declared.spending.Spend.{Spend}
use Rattle.script.specs.declared.stops.Kind.TheVariants.{Verify}
use Rattle.script.specs.declared.stops.Cause.{Cause}
use Rattle.script.specs.declared.stops.Cause.TheVariants.{MissingOperand, FailedCheck, OpenBranch, TooManyOps, StackTooTall, ItemTooLong, NotOneValue, FalseEnd}
use Rattle.script.specs.Token.{is_key}
use Rattle.script.specs.Number.{number_of, minimal_bytes_of, digits}
use Rattle.script.specs.declared.jumps.Jump.TheVariants.{Next, AfterElse, AfterEndIf}
use Rattle.script.specs.Step.{effect, multi_sig}
use Rattle.script.specs.Run.{op_count, counted_in, jump_length, open_ifs_after, state_after, Outcome, Clean, Stopped, outcome}

-- pushes do not count, and every other opcode does
op_counts : map op_count (Push [] ∷ Push (replicate 75 9) ∷ Number 1 ∷ Number 16 ∷ If ∷ NotIf ∷ Else ∷ EndIf ∷ Drop ∷ Dup ∷ Swap ∷ Size ∷ Equal ∷ EqualVerify ∷ Hash160 ∷ CheckSig ∷ CheckMultiSig ∷ CheckLockTimeVerify ∷ CheckSequenceVerify ∷ []) ≡
    0 ∷ 0 ∷ 0 ∷ 0 ∷ replicate 15 1
op_counts = refl

counted : counted_in (Dup ∷ Hash160 ∷ Push (replicate 20 3) ∷ EqualVerify ∷ CheckSig ∷ []) ≡ 4
counted = refl

-- after the ELSE of a false IF, or after its ENDIF where it has no ELSE; branches inside have their own
after_else : map (jump_length AfterElse) ((Number 1 ∷ Else ∷ Number 2 ∷ EndIf ∷ []) ∷ (Number 1 ∷ EndIf ∷ Else ∷ []) ∷ (If ∷ Else ∷ EndIf ∷ Else ∷ EndIf ∷ []) ∷ (NotIf ∷ If ∷ EndIf ∷ Else ∷ EndIf ∷ EndIf ∷ Number 1 ∷ []) ∷ (Number 1 ∷ Number 2 ∷ []) ∷ [] ∷ []) ≡ 2 ∷ 2 ∷ 4 ∷ 6 ∷ 2 ∷ 0 ∷ []
after_else = refl

-- after the ENDIF, from an ELSE
after_endif : map (jump_length AfterEndIf) ((Number 2 ∷ EndIf ∷ Number 3 ∷ []) ∷ (If ∷ Else ∷ EndIf ∷ EndIf ∷ Number 1 ∷ []) ∷ (Else ∷ EndIf ∷ []) ∷ (NotIf ∷ EndIf ∷ []) ∷ []) ≡ 2 ∷ 4 ∷ 2 ∷ 2 ∷ []
after_endif = refl

next : jump_length Next (Number 2 ∷ EndIf ∷ []) ≡ 0
next = refl

-- the IFs that are open, each with whether its ELSE has come
abbrev refused : Result (List Bool) Cause
refused = Err OpenBranch

open_ifs : (open_ifs_after If [] ≡ Ok (false ∷ [])) × (open_ifs_after NotIf (true ∷ []) ≡ Ok (false ∷ true ∷ [])) × (open_ifs_after Else (false ∷ true ∷ []) ≡ Ok (true ∷ true ∷ [])) × (open_ifs_after Else (true ∷ false ∷ []) ≡ refused) × (open_ifs_after Else [] ≡ refused) × (open_ifs_after EndIf (true ∷ false ∷ []) ≡ Ok (false ∷ [])) × (open_ifs_after EndIf [] ≡ refused) × (open_ifs_after Dup (false ∷ []) ≡ Ok (false ∷ [])) × (open_ifs_after (Number 1) [] ≡ Ok [])
open_ifs = (refl, refl, refl, refl, refl, refl, refl, refl, refl)

abbrev spend : Spend
spend = record { version = 2; lock_time = 500; sequence = 144; digest = replicate 32 7 }

abbrev key : ℕ → List ℕ
key b = 2 ∷ replicate 32 b

-- on the items of a witness, the last of which is the top
abbrev runs : List Op → List (List ℕ) → Outcome
runs ops witness = outcome spend ops witness

-- opcodes that count twice as often as this
abbrev pairs : ℕ → List Op
pairs n = flat_map (λ op. Dup ∷ Drop ∷ []) (replicate n Dup)

-- at the end: an open IF, then the number of elements, then what the one element is
ends : map (runs (Dup ∷ Drop ∷ [])) ([] ∷ ((1 ∷ []) ∷ []) ∷ ([] ∷ []) ∷ ((0 ∷ 0x80 ∷ []) ∷ []) ∷ ((0x80 ∷ 0 ∷ []) ∷ []) ∷ ([] ∷ (1 ∷ []) ∷ []) ∷ []) ≡
    Stopped 0 MissingOperand ∷ Clean 2 2 ∷ Stopped 2 FalseEnd ∷ Stopped 2 FalseEnd ∷ Clean 2 2 ∷ Stopped 2 NotOneValue ∷ []
unfolding state_after effect
ends = refl

no_entry : runs (Drop ∷ []) ((1 ∷ []) ∷ []) ≡ Stopped 1 NotOneValue
unfolding state_after effect
no_entry = refl

open_before_count : (runs (If ∷ []) ((1 ∷ []) ∷ []) ≡ Stopped 1 OpenBranch) × (runs (NotIf ∷ Else ∷ []) ((1 ∷ []) ∷ []) ≡ Stopped 2 OpenBranch) × (runs (Number 1 ∷ If ∷ []) ([] ∷ []) ≡ Stopped 2 OpenBranch)
unfolding state_after effect
open_before_count = (refl, refl, refl)

-- at one opcode: the count, then the branch, then what it does
count_first : (runs (pairs 100 ++ (Number 1 ∷ Drop ∷ EndIf ∷ [])) ((1 ∷ []) ∷ []) ≡ Stopped 202 TooManyOps) × (runs (pairs 100 ++ (EndIf ∷ [])) ((1 ∷ []) ∷ []) ≡ Stopped 200 OpenBranch) × (runs (pairs 100 ++ (Drop ∷ Drop ∷ [])) ((1 ∷ []) ∷ []) ≡ Stopped 201 TooManyOps) × (runs (pairs 99 ++ (Drop ∷ Drop ∷ [])) ((1 ∷ []) ∷ []) ≡ Stopped 199 MissingOperand)
unfolding state_after effect
count_first = (refl, refl, refl, refl)

-- opcodes that are jumped over count, and their branches have to be in order; what they do is ignored
jumped : (runs (Push [] ∷ If ∷ (replicate 198 Drop ++ (EndIf ∷ Number 1 ∷ []))) [] ≡ Clean 200 1) × (runs (Push [] ∷ If ∷ (replicate 200 Drop ++ (EndIf ∷ Number 1 ∷ []))) [] ≡ Stopped 202 TooManyOps) × (runs (Push [] ∷ If ∷ Else ∷ Else ∷ EndIf ∷ []) [] ≡ Stopped 3 OpenBranch) × (runs (Push [] ∷ If ∷ EndIf ∷ Else ∷ []) [] ≡ Stopped 3 OpenBranch)
unfolding state_after effect
jumped = (refl, refl, refl, refl)

-- the keys of a CHECKMULTISIG count where it is run
abbrev two_keys : List Op
two_keys = Push [] ∷ Push [] ∷ Push (key 1) ∷ Push (key 2) ∷ Number 2 ∷ CheckMultiSig ∷ []

keys_counted : (runs two_keys [] ≡ Clean 3 5) × (runs (pairs 98 ++ (Drop ∷ Drop ∷ two_keys)) ((1 ∷ []) ∷ (1 ∷ []) ∷ []) ≡ Clean 201 5) × (runs (pairs 98 ++ (Drop ∷ Drop ∷ Drop ∷ two_keys)) ((1 ∷ []) ∷ (1 ∷ []) ∷ (1 ∷ []) ∷ []) ≡ Stopped 204 TooManyOps)
    × (runs (pairs 98 ++ (Drop ∷ (two_keys ++ (Size ∷ Drop ∷ [])))) ((1 ∷ []) ∷ []) ≡ Stopped 204 TooManyOps) × (runs (pairs 98 ++ (Drop ∷ Push [] ∷ If ∷ (two_keys ++ (EndIf ∷ Number 1 ∷ [])))) ((1 ∷ []) ∷ []) ≡ Clean 200 2)
unfolding state_after effect multi_sig number_of minimal_bytes_of digits is_key
keys_counted = (refl, refl, refl, refl, refl)

-- a thousand elements, from the witness and above it
heights : (runs (Drop ∷ []) (replicate 2 (1 ∷ [])) ≡ Clean 1 2) × (runs (Dup ∷ Dup ∷ Drop ∷ Drop ∷ []) ((1 ∷ []) ∷ []) ≡ Clean 4 3) × (runs (Number 1 ∷ []) (replicate 999 (1 ∷ [])) ≡ Stopped 1 NotOneValue) × (runs (Number 1 ∷ []) (replicate 1000 (1 ∷ [])) ≡ Stopped 0 StackTooTall) × (runs (Dup ∷ []) (replicate 1000 (1 ∷ [])) ≡ Stopped 0 StackTooTall)
unfolding state_after effect
heights = (refl, refl, refl, refl, refl)

-- the checks of an opcode come before the limit of elements
check_first : runs (Number 2 ∷ EqualVerify ∷ []) ((1 ∷ []) ∷ []) ≡ Stopped 1 (FailedCheck Verify)
unfolding state_after effect
check_first = refl

-- an item of a witness, the deepest too
long_items : (runs [] (replicate 520 1 ∷ replicate 521 0 ∷ []) ≡ Stopped 0 ItemTooLong) × (runs (Drop ∷ []) (replicate 521 0 ∷ (1 ∷ []) ∷ []) ≡ Stopped 0 ItemTooLong) × (runs (Drop ∷ []) (replicate 520 1 ∷ replicate 520 0 ∷ []) ≡ Clean 1 2)
unfolding state_after effect
long_items = (refl, refl, refl)
