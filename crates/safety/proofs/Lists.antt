-- What is in a list: in one of two, in what a function makes of one, by a test, at an index.
use Rattle.std.proofs.Common.{◌≡◌, ℕ, zero, suc, ◌<◌, Bool, true, false, List, [], ◌∷◌, ◌++◌, map, length, reverse, Some, None, sym, ap, ◌∙◌, refl, subst, inl, inr, ⊎_elim, arith}
use Rattle.std.specs.Prelude.{◌⊎◌, ◌&&◌, slice_get, slice_index_or}
use Rattle.std.specs.List.{Contains, Any, list_any}
use Rattle.std.proofs.lemmas.Bool.{false≢true, or_cases, or_left, or_right}
use Rattle.std.proofs.lemmas.List.{reverse-reverse}
use Rattle.std.proofs.lemmas.Option.{slice_get_past}
use Rattle.safety.proofs.Slots.{any_first, any_none, contains_first, contains_later, contains_cases, contains_reverse}

pub none_some : {X : Type 0} (x : X) → None ≡ Some x → ⊥
none_some x e = cc

pub some_is : {X : Type 0} (x y : X) → Some x ≡ Some y → x ≡ y
some_is x y e = cc

pub contains_none : {X : Type 0} (x : X) → Contains [] x → ⊥
contains_none x (k, l, i) = omega (arith, l)

pub any_append : {X : Type 0} (P : X → Type 0) (xs ys : List X) → Any P (xs ++ ys) → Any P xs ⊎ Any P ys
any_append P [] ys a = inr a
any_append {X} P (x ∷ xs) ys a =
    ⊎_elim (λ (p : P x). inl (0, x, omega arith, refl, p))
    (λ (b : Any P (xs ++ ys)). ⊎_elim (λ (c : Any P xs). inl (suc c.0, c.1, (let l = c.2 in omega (arith, l)), c.3, c.4)) (λ (c : Any P ys). inr c) (any_append P xs ys b))
    (any_first P x (xs ++ ys) a)

pub any_map : {X Y : Type 0} (P : Y → Type 0) (f : X → Y) (xs : List X) → Any P (map f xs) → (x : X) × Contains xs x × P (f x)
any_map P f [] a = absurd (any_none P a)
any_map {X} {Y} P f (x ∷ xs) a =
    ⊎_elim {C = (x' : X) × Contains (x ∷ xs) x' × P (f x')} (λ (p : P (f x)). (x, contains_first x xs, p))
    (λ (b : Any P (map f xs)). let r = any_map P f xs b in (r.0, contains_later x xs r.0 r.1, r.2))
    (any_first P (f x) (map f xs) a)

pub contains_map : {X Y : Type 0} (f : X → Y) (xs : List X) (x : X) → Contains xs x → Contains (map f xs) (f x)
contains_map f [] x c = absurd (contains_none x c)
contains_map {X} {Y} f (y ∷ ys) x c =
    ⊎_elim {C = Contains (map f (y ∷ ys)) (f x)} (λ (e : y ≡ x). (0, omega arith, ap f e)) (λ (d : Contains ys x). contains_later (f y) (map f ys) (f x) (contains_map f ys x d)) (contains_cases y ys x c)

-- at an index
pub got : {X : Type 0} (xs : List X) (x : X) (k : ℕ) → k < length xs → slice_index_or xs k x ≡ x → slice_get xs k ≡ Some x
got [] x k l e = absurd (omega (arith, l))
got (y ∷ ys) x zero l e = ap Some e
got (y ∷ ys) x (suc k) l e = got ys x k (omega (arith, l)) e

pub contained : {X : Type 0} (xs : List X) (k : ℕ) (x : X) → slice_get xs k ≡ Some x → Contains xs x
contained [] k x e = absurd (none_some x (sym (slice_get_past [] k (omega arith)) ∙ e))
contained (y ∷ ys) zero x e = (0, omega arith, some_is y x e)
contained (y ∷ ys) (suc k) x e = contains_later y ys x (contained ys k x e)

-- counted from the end
pub at_reversed : {X : Type 0} (xs : List X) (x : X) → Contains xs x → (k : ℕ) × (slice_get (reverse xs) k ≡ Some x)
at_reversed xs x c =
    let d = contains_reverse (reverse xs) x (subst (λ ys. Contains ys x) (sym (reverse-reverse xs)) c) in
    (d.0, got (reverse xs) x d.0 d.1 d.2)

-- by a test
pub any_found : {X : Type 0} (p : X → Bool) (xs : List X) → list_any p xs ≡ true → (x : X) × Contains xs x × (p x ≡ true)
any_found p [] e = absurd (false≢true e)
any_found {X} p (x ∷ xs) e =
    ⊎_elim {C = (x' : X) × Contains (x ∷ xs) x' × (p x' ≡ true)} (λ (h : p x ≡ true). (x, contains_first x xs, h))
    (λ (r : list_any p xs ≡ true). let f = any_found p xs r in (f.0, contains_later x xs f.0 f.1, f.2))
    (or_cases (p x) (list_any p xs) e)

pub any_holds : {X : Type 0} (p : X → Bool) (xs : List X) (x : X) → Contains xs x → p x ≡ true → list_any p xs ≡ true
any_holds p [] x c e = absurd (contains_none x c)
any_holds {X} p (y ∷ ys) x c e =
    ⊎_elim {C = list_any p (y ∷ ys) ≡ true} (λ (s : y ≡ x). or_left (p y) (list_any p ys) (ap p s ∙ e)) (λ (d : Contains ys x). or_right (p y) (list_any p ys) (any_holds p ys x d e))
    (contains_cases y ys x c)

pub none_holds : {X : Type 0} (p : X → Bool) (xs : List X) (x : X) → list_any p xs ≡ false → Contains xs x → p x ≡ false
none_holds {X} p xs x e c = by (p x) refl
  where
    by : (b : Bool) → p x ≡ b → p x ≡ false
    by false f = f
    by true f = absurd (false≢true (sym e ∙ any_holds p xs x c f))

pub both : (a b : Bool) → a ≡ true → b ≡ true → (a && b) ≡ true
both true b e f = f
both false b e f = absurd (false≢true e)
