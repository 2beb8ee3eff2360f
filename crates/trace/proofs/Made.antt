-- What is made of the elements of a list so far, before what is made of those that are left.
use Rattle.std.proofs.Common.{◌≡◌, ℕ, ◌+◌, ◌<◌, ◌≤◌, List, [], ◌∷◌, ◌++◌, length, get_or, drop, Option, None, Some, refl, ap, sym, ◌∙◌, append_assoc, append-nil}
use Rattle.std.specs.List.{cons_option, filter_map}
use Rattle.std.proofs.lemmas.List.{at_drop_more, at_drop_all}

pub one_more : {A B : Type 0} (made : List A → List B) (of_one : A → List B) → ((x : A) (xs : List A) → made (x ∷ xs) ≡ of_one x ++ made xs) → (xs : List A) (i : ℕ) (d : A) (one done later whole : List B) → i < length xs → one ≡ of_one (get_or xs i d) → later ≡ done ++ one → done ++ made (drop i xs) ≡ whole → later ++ made (drop (i + 1) xs) ≡ whole
one_more made of_one first xs i d one done later whole l is put h =
    let rest = made (drop (i + 1) xs) in
    ap (λ ys. ys ++ rest) put ∙ append_assoc done one rest ∙ ap (λ ys. done ++ ys) (ap (λ ys. ys ++ rest) is ∙ sym (at_drop_more made xs i d l ∙ first (get_or xs i d) (drop (i + 1) xs))) ∙ h

pub none_left : {A B : Type 0} (made : List A → List B) → made [] ≡ [] → (xs : List A) (i : ℕ) (done whole : List B) → length xs ≤ i → done ++ made (drop i xs) ≡ whole → done ≡ whole
none_left made nothing xs i done whole l h = sym (append-nil done) ∙ ap (λ ys. done ++ ys) (sym (at_drop_all made xs i l ∙ nothing)) ∙ h

-- what `filter_map` makes of a first element
pub first_of : {A B : Type 0} (f : A → Option B) (x : A) (xs : List A) → filter_map f (x ∷ xs) ≡ cons_option (f x) [] ++ filter_map f xs
first_of {B = B} f x xs = go (f x)
  where
    go : (o : Option B) → cons_option o (filter_map f xs) ≡ cons_option o [] ++ filter_map f xs
    go None = refl
    go (Some y) = refl
