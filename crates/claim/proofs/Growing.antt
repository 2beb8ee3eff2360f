-- A clean run's height is at least what it starts with.
use Rattle.std.proofs.Common.{◌≡◌, ℕ, zero, suc, ◌≤◌, ◌+◌, max, nat_le, Bool, true, false, List, [], ◌∷◌, length, reverse, Result, Ok, Err, ap, refl, arith}
use Rattle.std.specs.Prelude.{if◌then◌else◌}
use Rattle.std.specs.List.{list_any}
use Rattle.std.proofs.lemmas.List.{length-reverse}
use Rattle.script.specs.declared.opcode.Op.{Op}
use Rattle.script.specs.declared.spending.Spend.{Spend}
use Rattle.script.specs.declared.stops.Cause.{Cause}
use Rattle.script.specs.declared.stops.Cause.TheVariants.{ItemTooLong, FalseEnd, NotOneValue, OpenBranch, TooManyOps, StackTooTall}
use Rattle.script.specs.Step.{Elements, Effect, effect, truth, result_if, ◌>>=◌}
use Rattle.script.specs.Run.{RunState, op_count, jump_length, open_ifs_after, state_after_effect, state_after_skip_or_run, state_after, Outcome, Clean, Stopped, onward, at_end, outcome_from, start, is_long, outcome}

no_stop : (at : ℕ) (c : Cause) (n k : ℕ) → Stopped at c ≡ Clean n k → ⊥
no_stop at c n k e = cc

ok_if : {A : Type 0} (b : Bool) (c : Cause) (r : Result A Cause) (q : A) → result_if b c r ≡ Ok q → r ≡ Ok q
ok_if true c r q e = e
ok_if false c r q e = absurd (cc)

ok_then : {A B : Type 0} (r : Result A Cause) (f : A → Result B Cause) (q : B) → (r >>= f) ≡ Ok q → (x : A) × (f x ≡ Ok q)
ok_then (Ok x) f q e = (x, e)
ok_then (Err c) f q e = absurd (cc)

abbrev good : {A : Type 0} → A → Result A Cause
good a = Ok a

onward-ok : (at : ℕ) (r : Result RunState Cause) (go : RunState → Outcome) (n k : ℕ) → onward at r go ≡ Clean n k → (q : RunState) × (r ≡ Ok q) × (go q ≡ Clean n k)
onward-ok at (Ok q) go n k e = (q, refl, e)
onward-ok at (Err c) go n k e = absurd (no_stop at c n k e)

same_height : (p q : RunState) → good p ≡ good q → p.height ≤ q.height
same_height p q e = let s : p ≡ q = cc in omega (arith, ap (λ (r : RunState). r.height) s)

effect-grows : (rest : List Op) (counted : ℕ) (ifs : List Bool) (height : ℕ) (d : Effect) (q : RunState) → state_after_effect rest counted ifs height d ≡ Ok q → height ≤ q.height
effect-grows rest counted ifs height d q e =
    let same : good (record { ahead = jump_length d.jump rest; stack = d.stack; counted = counted + d.keys; open_ifs = ifs; height = max height (length d.stack) }) ≡ good q = ok_if (nat_le (length d.stack) 1000) StackTooTall _ q e in
    omega (arith, same_height _ q same)

skip-grows : (spend : Spend) (op : Op) (rest : List Op) (n : ℕ) (p q : RunState) (counted : ℕ) (ifs : List Bool) → state_after_skip_or_run spend op rest n p counted ifs ≡ Ok q → p.height ≤ q.height
skip-grows spend op rest (suc n) p q counted ifs e = same_height (record { ahead = n; stack = p.stack; counted = counted; open_ifs = ifs; height = p.height }) q e
skip-grows spend op rest zero p q counted ifs e =
    let r = ok_then (effect spend counted op p.stack) (state_after_effect rest counted ifs p.height) q e in
    effect-grows rest counted ifs p.height r.0 q r.1

state-grows : (spend : Spend) (op : Op) (rest : List Op) (p q : RunState) → state_after spend op rest p ≡ Ok q → p.height ≤ q.height
unfolding state_after
state-grows spend op rest p q e =
    let go = state_after_skip_or_run spend op rest p.ahead p (p.counted + op_count op) in
    let a = ok_if (nat_le (p.counted + op_count op) 201) TooManyOps (open_ifs_after op p.open_ifs >>= go) q e in
    let r = ok_then (open_ifs_after op p.open_ifs) go q a in
    skip-grows spend op rest p.ahead p q (p.counted + op_count op) r.0 r.1

end_by : (b : Bool) (at counted height n k : ℕ) → (if b then Clean counted height else Stopped at FalseEnd) ≡ Clean n k → height ≤ k
end_by true at counted height n k e = let s : height ≡ k = cc in omega arith
end_by false at counted height n k e = absurd (no_stop at FalseEnd n k e)

end-height : (at : ℕ) (ifs : List Bool) (stack : Elements) (counted height n k : ℕ) → at_end at ifs stack counted height ≡ Clean n k → height ≤ k
end-height at (b ∷ ifs) stack counted height n k e = absurd (no_stop at OpenBranch n k e)
end-height at [] [] counted height n k e = absurd (no_stop at NotOneValue n k e)
end-height at [] (x ∷ []) counted height n k e = end_by (truth x) at counted height n k e
end-height at [] (x ∷ y ∷ stack) counted height n k e = absurd (no_stop at NotOneValue n k e)

run-grows : (spend : Spend) (at : ℕ) (ops : List Op) (p : RunState) (n k : ℕ) → outcome_from spend at ops p ≡ Clean n k → p.height ≤ k
run-grows spend at [] p n k e = end-height at p.open_ifs p.stack p.counted p.height n k e
run-grows spend at (op ∷ rest) p n k e =
    let r = onward-ok at (state_after spend op rest p) (outcome_from spend (at + 1) rest) n k e in
    let here = state-grows spend op rest p r.0 r.1 in
    let later = run-grows spend (at + 1) rest r.0 n k r.2 in
    omega (arith, here, later)

not_long : (b : Bool) (o : Outcome) (n k : ℕ) → (if b then Stopped 0 ItemTooLong else o) ≡ Clean n k → o ≡ Clean n k
not_long true o n k e = absurd (cc)
not_long false o n k e = e

-- a clean run has no more items than its height
pub clean-items : (spend : Spend) (ops : List Op) (items : List (List ℕ)) (n k : ℕ) → outcome spend ops items ≡ Clean n k → length items ≤ k
clean-items spend ops items n k e =
    let grown = run-grows spend 0 ops (start (reverse items)) n k (not_long (list_any is_long items) _ n k e) in
    omega (arith, grown, length-reverse items)
