-- The keys of a CHECKMULTISIG never lift the count above its limit.
use Rattle.std.proofs.Common.{◌≡◌, ℕ, ◌+◌, ◌≤◌, Bool, true, false, not, ◌==◌, nat_le, List, [], ◌∷◌, length, take, drop, reverse, Result, Ok, Err, sym, ap, refl, arith, length-take-le}
use Rattle.std.specs.Str.{bytes_eq}
use Rattle.std.specs.List.{list_all}
use Rattle.std.proofs.lemmas.Bool.{leb-true}
use Rattle.std.proofs.lemmas.List.{length-reverse}
use Rattle.script.specs.declared.opcode.Op.{Op}
use Rattle.script.specs.declared.opcode.Op.TheVariants.{Push, Number as SmallNumber, If, NotIf, Else, EndIf, Drop, Dup, Swap, Size, Equal, EqualVerify, Hash160, CheckSig, CheckMultiSig, CheckLockTimeVerify, CheckSequenceVerify}
use Rattle.script.specs.declared.spending.Spend.{Spend}
use Rattle.script.specs.declared.stops.Kind.TheVariants.{Verify, KeyCount, SigCount, TokenForm, KeyForm, Extra, LockTime, Sequence}
use Rattle.script.specs.declared.stops.Cause.{Cause}
use Rattle.script.specs.declared.stops.Cause.TheVariants.{MissingOperand, FailedCheck, TooManyOps}
use Rattle.script.specs.Number.{number_of}
use Rattle.script.specs.Token.{is_key, is_signature, token_of}
use Rattle.script.specs.Step.{Elements, Effect, effect, multi_sig, result_if, plain, branch_effect, truth, flag, number_or_failure, magnitude_or_failure, count_or_failure, top_elements, top_element, check_sigs_effect, lock_passes, age_passes, ◌>>=◌}

-- where an opcode has an effect, the count stays at most 201
abbrev pub Within : ℕ → Result Effect Cause → Type 0
Within counted (Ok done) = counted + done.keys ≤ 201
Within counted (Err c) = Unit {0}

within_checked : (counted : ℕ) (b : Bool) (c : Cause) (r : Result Effect Cause) → Within counted r → Within counted (result_if b c r)
within_checked counted true c r h = h
within_checked counted false c r h = tt

within_bind : {A : Type 0} (counted : ℕ) (r : Result A Cause) (f : A → Result Effect Cause) → ((x : A) → r ≡ Ok x → Within counted (f x)) → Within counted (r >>= f)
within_bind counted (Ok x) f h = h x refl
within_bind counted (Err c) f h = tt

within_plain : (counted : ℕ) (stack : Elements) → counted ≤ 201 → Within counted (plain stack)
within_plain counted stack l = omega arith

within_entered : (counted : ℕ) (b : Bool) (stack : Elements) → counted ≤ 201 → Within counted (branch_effect b stack)
within_entered counted true stack l = omega arith
within_entered counted false stack l = omega arith

result_if-ok : {A : Type 0} (b : Bool) (c : Cause) (r : Result A Cause) (x : A) → result_if b c r ≡ Ok x → (b ≡ true) × (r ≡ Ok x)
result_if-ok true c r x e = (refl, e)
result_if-ok false c r x e = absurd (cc)

taken_few : (n : ℕ) (stack : Elements) (q : Elements × Elements) → top_elements n stack ≡ Ok q → length q.0 ≤ n
taken_few n stack q e =
    let p = result_if-ok (nat_le n (length stack)) MissingOperand (Ok (take n stack, drop n stack)) q e in
    let f : q.0 ≡ take n stack = sym (first (take n stack, drop n stack) q p.1) in
    let l : n ≤ length stack = leb-true n (length stack) p.0 in
    let g = length-take-le n stack l in
    rw (f, g) (omega arith)
  where
    first : (a b : Elements × Elements) → ◌≡◌ {A = Result (Elements × Elements) Cause} (Ok a) (Ok b) → a.0 ≡ b.0
    first a b e = let f : a ≡ b = cc in ap (λ t. t.0) f

within_sigs : (spend : Spend) (counted : ℕ) (keys sigs : Elements) (extra : List ℕ) (stack : Elements) → counted + length keys ≤ 201 → Within counted (check_sigs_effect spend keys sigs extra stack)
within_sigs spend counted keys sigs extra stack l =
    within_checked counted (list_all is_signature sigs) (FailedCheck TokenForm) _ (within_checked counted (list_all is_key keys) (FailedCheck KeyForm) _ (within_checked counted (length extra == 0) (FailedCheck Extra) _ l))

within_multi : (spend : Spend) (counted : ℕ) (stack : Elements) → Within counted (multi_sig spend counted stack)
unfolding multi_sig
within_multi spend counted stack =
    within_bind counted (top_element stack) _ (λ p _. within_bind counted (number_or_failure (number_of 4 p.0)) _ (λ z _. within_bind counted (count_or_failure 20 KeyCount z) _ (λ n _.
    within_bind counted (result_if (nat_le (counted + n) 201) TooManyOps (top_elements n p.1)) _ (λ q e.
    let few : counted + length (reverse q.0) ≤ 201 = bound n p.1 q e in
    within_bind counted (top_element q.1) _ (λ s _. within_bind counted (number_or_failure (number_of 4 s.0)) _ (λ y _. within_bind counted (count_or_failure n SigCount y) _ (λ m _.
    within_bind counted (top_elements m s.1) _ (λ t _. within_bind counted (top_element t.1) _ (λ u _. within_sigs spend counted (reverse q.0) (reverse t.0) u.0 u.1 few)))))))))
  where
    bound : (n : ℕ) (below : Elements) (q : Elements × Elements) → result_if (nat_le (counted + n) 201) TooManyOps (top_elements n below) ≡ Ok q → counted + length (reverse q.0) ≤ 201
    bound n below q e =
        let p = result_if-ok (nat_le (counted + n) 201) TooManyOps (top_elements n below) q e in
        let l : counted + n ≤ 201 = leb-true (counted + n) 201 p.0 in
        let f : length q.0 ≤ n = taken_few n below q p.1 in
        let g : length (reverse q.0) ≡ length q.0 = length-reverse q.0 in
        omega arith

pub effect_within : (spend : Spend) (counted : ℕ) (op : Op) (stack : Elements) → counted ≤ 201 → Within counted (effect spend counted op stack)
unfolding effect
effect_within spend counted (Push item) stack l = omega arith
effect_within spend counted (SmallNumber n) stack l = omega arith
effect_within spend counted If [] l = tt
effect_within spend counted If (x ∷ stack) l = within_entered counted (truth x) stack l
effect_within spend counted NotIf [] l = tt
effect_within spend counted NotIf (x ∷ stack) l = within_entered counted (not (truth x)) stack l
effect_within spend counted Else stack l = omega arith
effect_within spend counted EndIf stack l = omega arith
effect_within spend counted Drop [] l = tt
effect_within spend counted Drop (x ∷ stack) l = omega arith
effect_within spend counted Dup [] l = tt
effect_within spend counted Dup (x ∷ stack) l = omega arith
effect_within spend counted Swap [] l = tt
effect_within spend counted Swap (x ∷ []) l = tt
effect_within spend counted Swap (x ∷ y ∷ stack) l = omega arith
effect_within spend counted Size [] l = tt
effect_within spend counted Size (x ∷ stack) l = omega arith
effect_within spend counted Equal [] l = tt
effect_within spend counted Equal (x ∷ []) l = tt
effect_within spend counted Equal (x ∷ y ∷ stack) l = omega arith
effect_within spend counted EqualVerify [] l = tt
effect_within spend counted EqualVerify (x ∷ []) l = tt
effect_within spend counted EqualVerify (x ∷ y ∷ stack) l = within_checked counted (bytes_eq x y) (FailedCheck Verify) (plain stack) (within_plain counted stack l)
effect_within spend counted Hash160 [] l = tt
effect_within spend counted Hash160 (x ∷ stack) l = omega arith
effect_within spend counted CheckSig [] l = tt
effect_within spend counted CheckSig (key ∷ []) l = tt
effect_within spend counted CheckSig (key ∷ sig ∷ stack) l =
    within_checked counted (is_signature sig) (FailedCheck TokenForm) _ (within_checked counted (is_key key) (FailedCheck KeyForm) _ (within_plain counted (flag (bytes_eq sig (token_of key spend.digest)) ∷ stack) l))
effect_within spend counted CheckMultiSig stack l = within_multi spend counted stack
effect_within spend counted CheckLockTimeVerify [] l = tt
effect_within spend counted CheckLockTimeVerify (x ∷ stack) l =
    within_bind counted (number_or_failure (number_of 5 x)) _ (λ z _. within_bind counted (magnitude_or_failure LockTime z) _ (λ n _. within_checked counted (lock_passes spend n) (FailedCheck LockTime) (plain (x ∷ stack)) (within_plain counted (x ∷ stack) l)))
effect_within spend counted CheckSequenceVerify [] l = tt
effect_within spend counted CheckSequenceVerify (x ∷ stack) l =
    within_bind counted (number_or_failure (number_of 5 x)) _ (λ z _. within_bind counted (magnitude_or_failure Sequence z) _ (λ n _. within_checked counted (age_passes spend n) (FailedCheck Sequence) (plain (x ∷ stack)) (within_plain counted (x ∷ stack) l)))
