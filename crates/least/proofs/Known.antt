-- HTLCs of which a preimage is known, and sums over them.
use Rattle.std.proofs.Common.{◌≡◌, ℕ, ◌+◌, ◌||◌, Bool, true, false, cond, List, [], ◌∷◌, Some, refl, sym, ap, ◌∙◌, arith}
use Rattle.std.specs.Prelude.{if◌then◌else◌, is_some}
use Rattle.std.specs.List.{filter, find, list_any, sum_by}
use Rattle.std.proofs.lemmas.List.Sums.{sum_by-cons}

-- one passes where one is found
pub found : {A : Type 0} (p : A → Bool) (xs : List A) → is_some (find p xs) ≡ list_any p xs
found p [] = refl
found p (x ∷ xs) = by (p x) (found p xs)
  where
    by : (b : Bool) → is_some (find p xs) ≡ list_any p xs → is_some (cond b (Some x) (find p xs)) ≡ (b || list_any p xs)
    by true e = refl
    by false e = e

-- those that pass count, and the others count nothing
pub kept_only : {A : Type 0} (p : A → Bool) (f : A → ℕ) (xs : List A) → sum_by (λ x. if p x then f x else 0) xs ≡ sum_by f (filter p xs)
kept_only p f [] = refl
kept_only {A} p f (x ∷ xs) = sum_by-cons (λ y. if p y then f y else 0) x xs ∙ by (p x) (kept_only p f xs)
  where
    by : (b : Bool) → sum_by (λ y. if p y then f y else 0) xs ≡ sum_by f (filter p xs)
        → (if b then f x else 0) + sum_by (λ y. if p y then f y else 0) xs ≡ sum_by f (cond b (x ∷ filter p xs) (filter p xs))
    by true e = ap (λ n. f x + n) e ∙ sym (sum_by-cons f x (filter p xs))
    by false e = omega (arith, e)
