-- The locks that a path asks for are below those of the claim.
use Rattle.std.proofs.Common.{◌≡◌, ℕ, ◌%◌, ◌^◌, ◌<◌, ◌≤◌, Bool, true, false, not, eqb, List, [], ◌∷◌, Option, Some, None, ap, refl, arith}
use Rattle.std.specs.Prelude.{if◌then◌else◌, nat_lt, unwrap_or}
use Rattle.std.proofs.Math.Nat.{div-eq_of_lt, mod-eq_of_lt}
use Rattle.std.proofs.lemmas.Bool.{lt-ltb, ltb-true, le-leb, ne_eqb, cond_both, and_from, or_right}
use Rattle.script.specs.Step.{bit_at, alike, lock_passes, age_passes}
use Rattle.script.specs.declared.spending.Spend.{Spend}
use Rattle.facts.specs.Symbols.{Fact}
use Rattle.facts.specs.declared.symbols.FactOver.TheVariants.{Lock, Age}
use Rattle.facts.specs.Symbols.{Stated}
use Rattle.paths.specs.Listing.{greater, with_lock, with_age, greatest_age_in}
use Rattle.claim.proofs.Telling.{Tells}

-- the lock of a fact is at most this
abbrev pub LockWithin : ℕ → Fact → Type 0
LockWithin h (Lock n) = n ≤ h
LockWithin h fact = Unit {0}

-- the age of a fact is at most this
abbrev pub AgeWithin : ℕ → Fact → Type 0
AgeWithin a (Age n) = bit_at 22 n ≡ false → n % 2 ^ 16 ≤ a
AgeWithin a fact = Unit {0}

greater-within : (h n : ℕ) (o : Option ℕ) → unwrap_or (greater o n) 0 ≤ h → (unwrap_or o 0 ≤ h) × (n ≤ h)
greater-within h n None e = (omega arith, e)
greater-within h n (Some m) e = (omega arith, omega arith)

pub lock-within : (h : ℕ) (fact : Fact) (o : Option ℕ) → unwrap_or (with_lock fact o) 0 ≤ h → (unwrap_or o 0 ≤ h) × LockWithin h fact
lock-within h (Lock n) o e = greater-within h n o e
lock-within h fact o e = (e, tt)

age-by : (a n : ℕ) (o : Option ℕ) (b : Bool) → unwrap_or (if b then o else greater o (n % 2 ^ 16)) 0 ≤ a → (unwrap_or o 0 ≤ a) × (b ≡ false → n % 2 ^ 16 ≤ a)
age-by a n o true e = (e, λ f. absurd (cc))
age-by a n o false e = let w = greater-within a (n % 2 ^ 16) o e in (w.0, λ f. w.1)

pub age-within : (a : ℕ) (fact : Fact) (o : Option ℕ) → unwrap_or (with_age fact o) 0 ≤ a → (unwrap_or o 0 ≤ a) × AgeWithin a fact
age-within a (Age n) o e = age-by a n o (bit_at 22 n) e
age-within a fact o e = (e, tt)

greater-small : (n : ℕ) (o : Option ℕ) → n < 65536 → unwrap_or o 0 < 65536 → unwrap_or (greater o n) 0 < 65536
greater-small n None h e = h
greater-small n (Some m) h e = omega arith

age-small_by : (n : ℕ) (o : Option ℕ) (b : Bool) → unwrap_or o 0 < 65536 → unwrap_or (if b then o else greater o (n % 2 ^ 16)) 0 < 65536
age-small_by n o true e = e
age-small_by n o false e = greater-small (n % 65536) o (omega arith) e

age-small_with : (fact : Fact) (o : Option ℕ) → unwrap_or o 0 < 65536 → unwrap_or (with_age fact o) 0 < 65536
age-small_with (Age n) o e = age-small_by n o (bit_at 22 n) e
age-small_with fact o e = e

-- an age in blocks has 16 bits
pub age-small : (facts : List Stated) → unwrap_or (greatest_age_in facts) 0 < 65536
age-small [] = omega arith
age-small (s ∷ facts) = age-small_with s.fact (greatest_age_in facts) (age-small facts)

bit-clear : (k a : ℕ) → a < 2 ^ k → bit_at k a ≡ false
bit-clear k a h = ap (λ q. eqb (q % 2) 1) (div-eq_of_lt h)

lock-passed : (spend : Spend) (n : ℕ) → n < 500000000 → spend.lock_time < 500000000 → n ≤ spend.lock_time → spend.sequence < 65536 → lock_passes spend n ≡ true
unfolding lock_passes
lock-passed spend n l h le s = rw (lt-ltb n 500000000 l, lt-ltb spend.lock_time 500000000 h, le-leb n spend.lock_time le, ne_eqb spend.sequence 4294967295 (λ e. omega arith)) refl

both_clear : (a b : Bool) → a ≡ false → b ≡ false → alike a b ≡ true
both_clear true b e f = absurd (cc)
both_clear false b e f = ap not f

age-passed : (spend : Spend) (n : ℕ) → spend.version ≡ 2 → spend.sequence < 65536 → bit_at 22 n ≡ false → n % 2 ^ 16 ≤ spend.sequence → age_passes spend n ≡ true
unfolding age_passes
age-passed spend n v s b le = or_right (bit_at 31 n) _ (and_from _ _
    (and_from _ _
    (and_from _ _ (le-leb 2 spend.version (omega arith)) (ap not (bit-clear 31 spend.sequence (omega arith))))
    (both_clear (bit_at 22 spend.sequence) (bit_at 22 n) (bit-clear 22 spend.sequence (omega arith)) b))
    (le-leb (n % 65536) (spend.sequence % 65536) (omega (arith, mod-eq_of_lt s))))

pub lock-tells : (spend : Spend) (n : ℕ) → spend.lock_time < 500000000 → n ≤ spend.lock_time → spend.sequence < 65536 → Tells (if nat_lt n 500000000 then Some true else None) (lock_passes spend n)
lock-tells spend n h le s = cond_both (nat_lt n 500000000) (Some true) None (λ o. Tells o (lock_passes spend n)) (λ e. lock-passed spend n (ltb-true n 500000000 e) h le s) (λ e. tt)

pub age-tells : (spend : Spend) (n : ℕ) → spend.version ≡ 2 → spend.sequence < 65536 → (bit_at 22 n ≡ false → n % 2 ^ 16 ≤ spend.sequence) → Tells (if bit_at 22 n then None else Some true) (age_passes spend n)
age-tells spend n v s le = cond_both (bit_at 22 n) None (Some true) (λ o. Tells o (age_passes spend n)) (λ e. tt) (λ e. age-passed spend n v s e (le e))
