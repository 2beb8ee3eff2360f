-- What is put on a pile from the back of a list stands on it in the list's order.
use Rattle.std.proofs.Common.{◌≡◌, ℕ, List, [], ◌∷◌, ◌++◌, map, sym, ap, ◌∙◌, append_assoc}
use Rattle.std.proofs.lemmas.List.{map-append}

pub one_more : {A : Type 0} (f : A → List ℕ) (xs front : List A) (x : A) (item : List ℕ) (pile later whole : List (List ℕ)) → xs ≡ front ++ x ∷ [] → item ≡ f x → later ≡ item ∷ pile → map f xs ++ pile ≡ whole → map f front ++ later ≡ whole
one_more f xs front x item pile later whole e is put h =
    ap (λ l. map f front ++ l) (put ∙ ap (λ b. b ∷ pile) is) ∙ sym (append_assoc (map f front) (f x ∷ []) pile) ∙ ap (λ l. l ++ pile) (sym (map-append f front (x ∷ []))) ∙ ap (λ ys. map f ys ++ pile) (sym e) ∙ h
