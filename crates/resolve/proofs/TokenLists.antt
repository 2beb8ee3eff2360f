-- Lists of tokens that are those of a key, or not.
use Rattle.std.proofs.Common.{◌≡◌, ℕ, zero, suc, ◌+◌, ◌<◌, ◌≤◌, Bool, true, false, List, [], ◌∷◌, length, map, drop, refl, sym, ap, ◌∙◌, get_or, add-one, drop-cons}
use Rattle.std.specs.Prelude.{not}
use Rattle.std.specs.Str.{bytes_eq}
use Rattle.std.proofs.lemmas.Bool.{false≢true}
use Rattle.std.proofs.lemmas.List.{drop_all}
use Rattle.std.proofs.lemmas.Slice.Eq.{bytes_eq-Decides}

split : (xs : List (List ℕ)) (i : ℕ) (d x : List ℕ) → i < length xs → x ≡ get_or xs i d → drop i xs ≡ x ∷ drop (i + 1) xs
split xs i d x h e = rw (add-one, e) (drop-cons xs i d h)

first_is : (x y : List ℕ) (xs ys : List (List ℕ)) → x ∷ xs ≡ y ∷ ys → x ≡ y
first_is x y xs ys e = cc

not_false : (t : Bool) → false ≡ not t → t ≡ true
not_false true e = refl
not_false false e = absurd (false≢true e)

not_true : (t : Bool) → true ≡ not t → t ≡ false
not_true true e = absurd (false≢true (sym e))
not_true false e = refl

-- what is left decides
pub next : (f : List ℕ → List ℕ) (ts ds : List (List ℕ)) (i : ℕ) (t u : List ℕ) → i < length ds → length ts ≡ length ds → t ≡ get_or ts i t → u ≡ f (get_or ds i []) → false ≡ not (bytes_eq t u)
    → (drop i ts ≡ map f (drop i ds) → ts ≡ map f ds) → drop (i + 1) ts ≡ map f (drop (i + 1) ds) → ts ≡ map f ds
next f ts ds i t u l n e g w k r =
    let here : i < length ts = rw n l in
    let same : t ≡ f (get_or ds i []) = (bytes_eq-Decides t u).0 (not_false (bytes_eq t u) w) ∙ g in
    k (split ts i t t here e ∙ ap (λ x. x ∷ drop (i + 1) ts) same ∙ ap (λ xs. f (get_or ds i []) ∷ xs) r ∙ sym (ap (map f) (split ds i [] (get_or ds i []) l refl)))

pub ends : (f : List ℕ → List ℕ) (ts ds : List (List ℕ)) (i : ℕ) → length ds ≤ i → length ts ≡ length ds → (drop i ts ≡ map f (drop i ds) → ts ≡ map f ds) → ts ≡ map f ds
ends f ts ds i l n k =
    let m : length ts ≤ i = rw n l in
    k (drop_all i ts m ∙ sym (ap (map f) (drop_all i ds l)))

pub differs : (f : List ℕ → List ℕ) (ts ds : List (List ℕ)) (i : ℕ) (t u : List ℕ) → i < length ds → length ts ≡ length ds → t ≡ get_or ts i t → u ≡ f (get_or ds i []) → true ≡ not (bytes_eq t u)
    → ts ≡ map f ds → ⊥
differs f ts ds i t u l n e g w r =
    let here : i < length ts = rw n l in
    let both : t ∷ drop (i + 1) ts ≡ f (get_or ds i []) ∷ map f (drop (i + 1) ds) =
    sym (split ts i t t here e) ∙ ap (drop i) r ∙ dropped f ds i ∙ ap (map f) (split ds i [] (get_or ds i []) l refl) in
    let same : t ≡ u = first_is t (f (get_or ds i [])) _ _ both ∙ sym g in
    false≢true (sym (not_true (bytes_eq t u) w) ∙ (bytes_eq-Decides t u).1 same)
  where
    dropped : (f : List ℕ → List ℕ) (xs : List (List ℕ)) (i : ℕ) → drop i (map f xs) ≡ map f (drop i xs)
    dropped f xs zero = refl
    dropped f [] (suc i) = refl
    dropped f (x ∷ xs) (suc i) = dropped f xs i
