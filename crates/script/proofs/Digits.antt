-- The digits of a number, one after another.
use Rattle.std.proofs.Common.{◌≡◌, ◌≢◌, ℕ, zero, suc, ◌+◌, ◌-◌, ◌/◌, ◌<◌, ◌≤◌, List, [], ◌++◌, sym, ap, ◌∙◌, refl, arith, append_assoc, append-nil}
use Rattle.std.specs.Prelude.{if◌then◌else◌}
use Rattle.std.proofs.lemmas.Bool.{ne_eqb}
use Rattle.script.specs.Number.{lowest, digits, minimal_bytes_of}

pub digits-zero : (m : ℕ) → digits m 0 ≡ []
unfolding digits
digits-zero zero = refl
digits-zero (suc m) = refl

pub digits-suc : (m r : ℕ) → r ≢ 0 → digits (suc m) r ≡ lowest r ++ digits m (r / 256)
unfolding digits
digits-suc m r h = ap (λ t. if t then [] else (lowest r ++ digits m (r / 256))) (ne_eqb r 0 h)

-- one digit further
pub digit_more : (bs : List ℕ) (step r : ℕ) → step < 9 → r ≢ 0 → (bs ++ lowest r) ++ digits (9 - (step + 1)) (r / 256) ≡ bs ++ digits (9 - step) r
digit_more bs step r l h =
    let e : 9 - step ≡ suc (9 - (step + 1)) = omega arith in
    append_assoc bs (lowest r) (digits (9 - (step + 1)) (r / 256)) ∙ ap (λ ds. bs ++ ds) (sym (ap (λ k. digits k r) e ∙ digits-suc (9 - (step + 1)) r h))

-- no digit is left
pub digit_none : (bs : List ℕ) (step r : ℕ) → r ≡ 0 → bs ++ digits (9 - (step + 1)) r ≡ bs ++ digits (9 - step) r
digit_none bs step r e = ap (λ ds. bs ++ ds) (ap (digits (9 - (step + 1))) e ∙ digits-zero (9 - (step + 1)) ∙ sym (ap (digits (9 - step)) e ∙ digits-zero (9 - step)))

pub digits_done : (bs : List ℕ) (step r n : ℕ) → 9 ≤ step → bs ++ digits (9 - step) r ≡ digits 9 n → bs ≡ minimal_bytes_of n
unfolding digits minimal_bytes_of
digits_done bs step r n l e =
    let z : 9 - step ≡ 0 = omega arith in
    sym (append-nil bs) ∙ ap (λ k. bs ++ digits k r) (sym z) ∙ e
