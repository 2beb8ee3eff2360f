-- What stands at an index of a list after one call.
use Rattle.std.proofs.Common.{◌≡◌, ℕ, zero, suc, List, [], ◌∷◌, ◌++◌, Some, refl, ap}
use Rattle.std.specs.Prelude.{slice_get, option_map, unwrap_or}
use Rattle.book.specs.Books.{at_index}

-- at the index that changes, at another one, and where the change does not show
pub at_here : {A : Type 0} (f : A → A) (c : ℕ) (xs : List A) → slice_get (at_index f c xs) c ≡ option_map f (slice_get xs c)
at_here f c [] = refl
at_here f zero (x ∷ xs) = refl
at_here f (suc c) (x ∷ xs) = at_here f c xs

pub at_other : {A : Type 0} (f : A → A) (d c : ℕ) (xs : List A) → (d ≡ c → ⊥) → slice_get (at_index f d xs) c ≡ slice_get xs c
at_other f d c [] other = refl
at_other f zero zero (x ∷ xs) other = absurd (other refl)
at_other f zero (suc c) (x ∷ xs) other = refl
at_other f (suc d) zero (x ∷ xs) other = refl
at_other f (suc d) (suc c) (x ∷ xs) other = at_other f d c xs (λ e. other (ap suc e))

pub unseen : {A V : Type 0} (see : A → V) (f : A → A) → ((x : A) → see (f x) ≡ see x) → (d c : ℕ) (xs : List A)
    → option_map see (slice_get (at_index f d xs) c) ≡ option_map see (slice_get xs c)
unseen see f same d c [] = refl
unseen see f same zero zero (x ∷ xs) = ap Some (same x)
unseen see f same zero (suc c) (x ∷ xs) = refl
unseen see f same (suc d) zero (x ∷ xs) = refl
unseen see f same (suc d) (suc c) (x ∷ xs) = unseen see f same d c xs

-- one more element, which is seen as if nothing stood there
pub as_before : {A V : Type 0} (see : A → V) (none : V) (x : A) → see x ≡ none → (c : ℕ) (xs : List A)
    → unwrap_or (option_map see (slice_get (xs ++ x ∷ []) c)) none ≡ unwrap_or (option_map see (slice_get xs c)) none
as_before see none x same zero [] = same
as_before see none x same (suc c) [] = refl
as_before see none x same zero (y ∷ ys) = refl
as_before see none x same (suc c) (y ∷ ys) = as_before see none x same c ys
