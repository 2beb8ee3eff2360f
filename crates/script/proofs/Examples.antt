-- The definitions at small scripts.
use Rattle.std.proofs.Common.{◌≡◌, ℕ, true, false, List, [], ◌∷◌, ◌++◌, replicate, flat_map, refl, Some, None}
use Rattle.script.specs.declared.opcode.Op.{Op}
use Rattle.script.specs.declared.opcode.Op.TheVariants.{Push, Number, If, NotIf, Else, EndIf, Drop, Dup, CheckSig, CheckMultiSig, CheckLockTimeVerify, CheckSequenceVerify}
use Rattle.script.specs.declared.spending.Spend.{Spend}
use Rattle.script.specs.declared.stops.Kind.TheVariants.{Extra, LockTime, Sequence}
use Rattle.script.specs.declared.stops.Cause.TheVariants.{MissingOperand, FailedCheck, OpenBranch, TooManyOps, StackTooTall, ItemTooLong, NotOneValue, FalseEnd}
use Rattle.script.specs.Token.{token_of, is_signature, is_token, is_key}
use Rattle.script.specs.Number.{number_of, minimal_bytes_of, digits}
use Rattle.script.specs.declared.jumps.Jump.TheVariants.{AfterElse, AfterEndIf}
use Rattle.script.specs.Step.{effect, multi_sig, age_passes, lock_passes}
use Rattle.script.specs.Run.{state_after, Clean, Stopped, outcome}
use Rattle.script.specs.Clean.{no_more, one_more, an_else, a_branch, Jumps, after_else, after_endif_for_else, after_endif, MayFollow, IsClean, StopsAt}
use Rattle.script.proofs.OneEnd.{clean_is_exact, stop_is_exact}

-- a spend of version 2, lock time 500 and sequence 144
spend : Spend
spend = record { version = 2; lock_time = 500; sequence = 144; digest = replicate 32 7 }

key_of : ℕ → List ℕ
key_of b = 2 ∷ replicate 32 b

-- the to_local output of BOLT 3, with delay 144
to_local : List Op
to_local = If ∷ Push (key_of 17) ∷ Else ∷ Push (0x90 ∷ 0 ∷ []) ∷ CheckSequenceVerify ∷ Drop ∷ Push (key_of 34) ∷ EndIf ∷ CheckSig ∷ []

delayed : outcome spend to_local (token_of (key_of 34) spend.digest ∷ [] ∷ []) ≡ Clean 6 2
unfolding spend key_of to_local token_of state_after effect multi_sig number_of age_passes is_signature is_token is_key
delayed = refl

penalty : outcome spend to_local (token_of (key_of 17) spend.digest ∷ (1 ∷ []) ∷ []) ≡ Clean 6 2
unfolding spend key_of to_local token_of state_after effect multi_sig number_of age_passes is_signature is_token is_key
penalty = refl

wrong_key : outcome spend to_local (token_of (key_of 17) spend.digest ∷ [] ∷ []) ≡ Stopped 9 FalseEnd
unfolding spend key_of to_local token_of state_after effect multi_sig number_of age_passes is_signature is_token is_key
wrong_key = refl

too_young : outcome (record spend { sequence = 143 }) to_local (token_of (key_of 34) spend.digest ∷ [] ∷ []) ≡ Stopped 4 (FailedCheck Sequence)
unfolding spend key_of to_local token_of state_after effect multi_sig number_of age_passes is_signature is_token is_key
too_young = refl

nothing_given : outcome spend to_local [] ≡ Stopped 0 MissingOperand
unfolding to_local state_after effect
nothing_given = refl

-- the same as relations
delayed_clean : IsClean spend to_local (token_of (key_of 34) spend.digest ∷ [] ∷ []) 6 2
delayed_clean = (clean_is_exact spend to_local (token_of (key_of 34) spend.digest ∷ [] ∷ []) 6 2).0 delayed

wrong_key_stops : StopsAt spend to_local (token_of (key_of 17) spend.digest ∷ [] ∷ []) 9 FalseEnd
wrong_key_stops = (stop_is_exact spend to_local (token_of (key_of 17) spend.digest ∷ [] ∷ []) 9 FalseEnd).0 wrong_key

open_if : outcome spend (If ∷ Number 1 ∷ []) ((1 ∷ []) ∷ []) ≡ Stopped 2 OpenBranch
unfolding state_after effect
open_if = refl

second_else : outcome spend (Number 1 ∷ If ∷ Else ∷ Else ∷ EndIf ∷ []) [] ≡ Stopped 3 OpenBranch
unfolding state_after effect
second_else = refl

stray_end : outcome spend (EndIf ∷ []) [] ≡ Stopped 0 OpenBranch
unfolding state_after effect
stray_end = refl

-- an IF that is not run hides what is wrong with its operands, and nothing else
not_run : outcome spend (Push [] ∷ If ∷ Drop ∷ Drop ∷ NotIf ∷ Else ∷ EndIf ∷ EndIf ∷ Number 1 ∷ []) [] ≡ Clean 7 1
unfolding state_after effect
not_run = refl

empty_script : outcome spend [] ((1 ∷ []) ∷ []) ≡ Clean 0 1
unfolding state_after effect
empty_script = refl

two_values : outcome spend [] ((1 ∷ []) ∷ (1 ∷ []) ∷ []) ≡ Stopped 0 NotOneValue
unfolding state_after effect
two_values = refl

negative_zero : outcome spend [] ((0 ∷ 0x80 ∷ []) ∷ []) ≡ Stopped 0 FalseEnd
unfolding state_after effect
negative_zero = refl

longest_item : outcome spend [] (replicate 520 1 ∷ []) ≡ Clean 0 1
longest_item = refl

long_first : outcome spend (EndIf ∷ []) (replicate 521 1 ∷ []) ≡ Stopped 0 ItemTooLong
long_first = refl

-- two of two keys
multi : List Op
multi = Number 2 ∷ Push (key_of 17) ∷ Push (key_of 34) ∷ Number 2 ∷ CheckMultiSig ∷ []

both : outcome spend multi ([] ∷ token_of (key_of 17) spend.digest ∷ token_of (key_of 34) spend.digest ∷ []) ≡ Clean 3 7
unfolding spend key_of multi token_of state_after effect multi_sig number_of is_signature is_token is_key
both = refl

swapped : outcome spend multi ([] ∷ token_of (key_of 34) spend.digest ∷ token_of (key_of 17) spend.digest ∷ []) ≡ Stopped 5 FalseEnd
unfolding spend key_of multi token_of state_after effect multi_sig number_of is_signature is_token is_key
swapped = refl

extra : outcome spend multi ((1 ∷ []) ∷ token_of (key_of 17) spend.digest ∷ token_of (key_of 34) spend.digest ∷ []) ≡ Stopped 4 (FailedCheck Extra)
unfolding spend key_of multi token_of state_after effect multi_sig number_of is_signature is_token is_key
extra = refl

-- an absolute lock at its height, and one above it
locked : outcome spend (Push (0xf4 ∷ 1 ∷ []) ∷ CheckLockTimeVerify ∷ []) [] ≡ Clean 1 1
unfolding spend state_after effect number_of lock_passes
locked = refl

locked_longer : outcome spend (Push (0xf5 ∷ 1 ∷ []) ∷ CheckLockTimeVerify ∷ []) [] ≡ Stopped 1 (FailedCheck LockTime)
unfolding spend state_after effect number_of lock_passes
locked_longer = refl

-- DUP and DROP, this number of times
pairs : ℕ → List Op
pairs n = flat_map (λ op. Dup ∷ Drop ∷ []) (replicate n Dup)

at_limit : outcome spend (pairs 100 ++ (Number 1 ∷ Drop ∷ [])) ((1 ∷ []) ∷ []) ≡ Clean 201 2
unfolding pairs state_after effect
at_limit = refl

above_limit : outcome spend (pairs 101) ((1 ∷ []) ∷ []) ≡ Stopped 201 TooManyOps
unfolding pairs state_after effect
above_limit = refl

-- one element too many
too_tall : outcome spend (replicate 1001 (Number 1)) [] ≡ Stopped 1000 StackTooTall
unfolding state_after effect
too_tall = refl

tall_enough : outcome spend (replicate 1000 (Number 1)) [] ≡ Stopped 1000 NotOneValue
unfolding state_after effect
tall_enough = refl

-- numbers
zero_item : minimal_bytes_of 0 ≡ []
unfolding minimal_bytes_of digits
zero_item = refl

sign_byte : minimal_bytes_of 128 ≡ 0x80 ∷ 0 ∷ []
unfolding minimal_bytes_of digits
sign_byte = refl

delay : minimal_bytes_of 40000 ≡ 0x40 ∷ 0x9c ∷ 0 ∷ []
unfolding minimal_bytes_of digits
delay = refl

minus_one : number_of 4 (0x81 ∷ []) ≡ Some (record { negative = true; magnitude = 1 })
unfolding number_of
minus_one = refl

-- 80 is not minimally encoded
no_zero : number_of 4 (0x80 ∷ []) ≡ None
unfolding number_of
no_zero = refl

five_bytes : number_of 4 (0 ∷ 0 ∷ 0 ∷ 0 ∷ 1 ∷ []) ≡ None
unfolding number_of
five_bytes = refl

five_bytes_lock : number_of 5 (0 ∷ 0 ∷ 0 ∷ 0 ∷ 1 ∷ []) ≡ Some (record { negative = false; magnitude = 0x100000000 })
unfolding number_of
five_bytes_lock = refl

-- partners: the inner IF keeps its own ELSE
inner_else : Jumps (If ∷ Else ∷ EndIf ∷ Number 1 ∷ Else ∷ Number 2 ∷ EndIf ∷ []) AfterElse 5
inner_else = after_else (record {
  block = If ∷ Else ∷ EndIf ∷ Number 1 ∷ [];
  after = Number 2 ∷ EndIf ∷ [];
  same = refl;
  closed = a_branch {inner = Else ∷ []} refl (an_else no_more) (one_more refl no_more);
  place = refl;
})

-- from an IF with no ELSE a run jumps past the ENDIF; what follows that is ignored
no_else : Jumps (Number 1 ∷ EndIf ∷ Else ∷ []) AfterElse 2
no_else = after_endif_for_else (record { block = Number 1 ∷ []; after = Else ∷ []; same = refl; closed = one_more refl no_more; place = refl })

-- from an ELSE a run jumps past the ENDIF, whatever ELSEs come first
over_an_else : Jumps (Else ∷ EndIf ∷ Number 1 ∷ []) AfterEndIf 2
over_an_else = after_endif (record { block = Else ∷ []; after = Number 1 ∷ []; same = refl; closed = an_else no_more; place = refl })

-- the ELSE of an IF may follow here, since the inner IF is closed
else_follows : MayFollow (NotIf ∷ If ∷ Else ∷ EndIf ∷ []) Else
else_follows = record { before = []; opener = NotIf; block = If ∷ Else ∷ EndIf ∷ []; same = refl; opens = refl; closed = a_branch {inner = Else ∷ []} {rest = []} refl (an_else no_more) no_more }
