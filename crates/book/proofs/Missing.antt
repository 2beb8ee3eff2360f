-- If no number is missing, all are kept.
use Rattle.std.proofs.Common.{◌≡◌, ℕ, zero, suc, ◌+◌, ◌<◌, ◌≤◌, ◌==◌, if◌then◌else◌, Bool, true, false, true≢false, List, [], ◌∷◌, ◌++◌, Some, None, refl, sym, ap, ◌∙◌, arith, ⊎_elim, inl, inr, ◌⊎◌}
use Rattle.std.proofs.lemmas.Bool.{eqb-true, or_cases, cases_lt}
use Rattle.std.proofs.lemmas.List.Folds.{list_any-append}
use Rattle.book.specs.Books.{is_kept, missing_from}
use Rattle.book.proofs.Accepting.{some_none}

-- none of the `count` numbers from n on is missing
pub all_kept : (kept : List ℕ) (n count : ℕ) → missing_from kept n count ≡ None → (k : ℕ) → n ≤ k → k < n + count → is_kept kept k ≡ true
all_kept kept n zero none k from to = absurd (omega arith)
all_kept kept n (suc count) none k from to =
    by (is_kept kept n) refl none (λ rest le. all_kept kept (n + 1) count rest k le (omega arith))
  where
    by : (here : Bool) → is_kept kept n ≡ here → (if here then missing_from kept (n + 1) count else Some n) ≡ None
        → (missing_from kept (n + 1) count ≡ None → n + 1 ≤ k → is_kept kept k ≡ true) → is_kept kept k ≡ true
    by true e rest on = ⊎_elim (λ lt. let same : n ≡ k = omega arith in ap (is_kept kept) (sym same) ∙ e) (λ le. on rest le) (cases_lt k (n + 1))
    by false e rest on = absurd (some_none n rest)

-- a number that is kept after m is
pub kept_or_new : (kept : List ℕ) (m n : ℕ) → is_kept (kept ++ m ∷ []) n ≡ true → (is_kept kept n ≡ true) ⊎ (m ≡ n)
kept_or_new kept m n h = ⊎_elim (λ old. inl old) (λ new. inr (eqb-true m n (last new))) (or_cases (is_kept kept n) (is_kept (m ∷ []) n) (sym (list_any-append (λ k. k == n) kept (m ∷ [])) ∙ h))
  where
    last : is_kept (m ∷ []) n ≡ true → (m == n) ≡ true
    last e = ⊎_elim (λ x. x) (λ x. absurd (true≢false (sym x))) (or_cases (m == n) false e)
