-- Lists by index, and lists of the values at numbers.
use Rattle.std.proofs.Common.{◌≡◌, ℕ, zero, suc, ◌<◌, ◌≤◌, Bool, true, false, List, [], ◌∷◌, ◌++◌, length, Option, Some, None, refl, sym, ap, ◌∙◌, subst, inl, inr, ⊎_elim, arith, length-append}
use Rattle.std.specs.Prelude.{◌⊎◌, slice_get, if◌then◌else◌}
use Rattle.std.specs.List.{Contains, cons_option}
use Rattle.std.proofs.lemmas.Bool.{cases_lt}
use Rattle.std.proofs.lemmas.Option.{slice_get_past}
use Rattle.safety.proofs.Lists.{none_some, contains_none}
use Rattle.book.specs.Knowing.{below}

-- ---- at an index

pub some_at : {X : Type 0} (xs : List X) (k : ℕ) → k < length xs → (x : X) × (slice_get xs k ≡ Some x)
some_at [] k l = absurd (omega (arith, l))
some_at (x ∷ xs) zero l = (x, refl)
some_at (x ∷ xs) (suc k) l = some_at xs k (omega (arith, l))

at_end : {X : Type 0} (xs : List X) (x : X) → slice_get (xs ++ x ∷ []) (length xs) ≡ Some x
at_end [] x = refl
at_end (y ∷ ys) x = at_end ys x

still_at : {X : Type 0} (xs ys : List X) (n : ℕ) (x : X) → slice_get xs n ≡ Some x → slice_get (xs ++ ys) n ≡ Some x
still_at [] ys n x e = absurd (none_some x (sym (slice_get_past [] n (omega arith)) ∙ e))
still_at (y ∷ xs) ys zero x e = e
still_at (y ∷ xs) ys (suc n) x e = still_at xs ys n x e

either_at : {X : Type 0} (xs ys : List X) (n : ℕ) (x : X) → slice_get (xs ++ ys) n ≡ Some x → (slice_get xs n ≡ Some x) ⊎ ((k : ℕ) × (slice_get ys k ≡ Some x))
either_at [] ys n x e = inr (n, e)
either_at (z ∷ xs) ys zero x e = inl e
either_at (z ∷ xs) ys (suc n) x e = either_at xs ys n x e

the_one : {X : Type 0} (o : Option X) (k : ℕ) (x : X) → slice_get (cons_option o []) k ≡ Some x → o ≡ Some x
the_one None k x e = absurd (none_some x (sym (slice_get_past [] k (omega arith)) ∙ e))
the_one (Some y) zero x e = e
the_one {X} (Some y) (suc k) x e = absurd (none_some x (sym (slice_get_past (y ∷ []) (suc k) (omega arith)) ∙ e))

-- ---- of the values at the numbers below one

-- what stands in the list is the value at some number
pub from_below : {X : Type 0} (at : ℕ → Option X) (m n : ℕ) (x : X) → slice_get (below at m) n ≡ Some x → (j : ℕ) × (at j ≡ Some x)
from_below at zero n x e = absurd (none_some x (sym (slice_get_past [] n (omega arith)) ∙ e))
from_below {X} at (suc m) n x e =
    ⊎_elim {C = (j : ℕ) × (at j ≡ Some x)} (λ (h : slice_get (below at m) n ≡ Some x). from_below at m n x h)
    (λ (h : (k : ℕ) × (slice_get (cons_option (at m) []) k ≡ Some x)). (m, the_one (at m) h.0 x h.1))
    (either_at (below at m) (cons_option (at m) []) n x e)

-- each of the first has a value
abbrev pub AreThere : {X : Type 0} → (ℕ → Option X) → ℕ → Type 0
AreThere {X} at n = (j : ℕ) → j < n → (x : X) × (at j ≡ Some x)

below_length : {X : Type 0} (at : ℕ → Option X) (n : ℕ) → AreThere at n → length (below at n) ≡ n
below_length at zero a = refl
below_length at (suc n) a =
    let x = a n (omega arith) in
    let l = below_length at n (λ j i. a j (omega (arith, i))) in
    let e = length-append (below at n) (x.0 ∷ []) in
    ap (λ o. length (below at n ++ cons_option o [])) x.1 ∙ omega (arith, l, e)

here_at : {X : Type 0} (at : ℕ → Option X) (n : ℕ) (x : X) → AreThere at n → at n ≡ Some x → slice_get (below at (suc n)) n ≡ Some x
here_at at n x a e =
    ap (λ o. slice_get (below at n ++ cons_option o []) n) e ∙ ap (slice_get (below at n ++ x ∷ [])) (sym (below_length at n a)) ∙ at_end (below at n) x

next_at : {X : Type 0} (at : ℕ → Option X) (n m : ℕ) (x : X) → (n < m → slice_get (below at m) n ≡ Some x) → AreThere at n → at n ≡ Some x → n < suc m → (n < m) ⊎ (m ≤ n) → slice_get (below at (suc m)) n ≡ Some x
next_at at n m x f a e l (inl k) = still_at (below at m) (cons_option (at m) []) n x (f k)
next_at at n m x f a e l (inr k) = let i : n ≡ m = omega (arith, l, k) in subst (λ j. slice_get (below at (suc j)) n ≡ Some x) i (here_at at n x a e)

-- where all before it have a value, the value at a number stands at that number
pub below_at : {X : Type 0} (at : ℕ → Option X) (n m : ℕ) (x : X) → AreThere at n → at n ≡ Some x → n < m → slice_get (below at m) n ≡ Some x
below_at at n zero x a e l = absurd (omega (arith, l))
below_at at n (suc m) x a e l = next_at at n m x (λ k. below_at at n m x a e k) a e l (cases_lt n m)

-- ---- by a test

-- what is in a list that is there by a test: the test holds, and it is in the list
pub if_true : {X : Type 0} (b : Bool) (xs : List X) (x : X) → Contains (if b then xs else []) x → (b ≡ true) × Contains xs x
if_true true xs x i = (refl, i)
if_true false xs x i = absurd (contains_none x i)
