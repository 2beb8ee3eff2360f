-- Lists of tokens that are not alike.
use Rattle.std.proofs.Common.{◌≡◌, ℕ, suc, ◌+◌, ◌<◌, ◌≤◌, true, false, ◌&&◌, List, [], ◌∷◌, length, get_or, drop, sym, ap, ◌∙◌, refl}
use Rattle.std.specs.Str.{bytes_eq}
use Rattle.std.proofs.lemmas.Bool.{and_right}
use Rattle.std.proofs.lemmas.List.{drop_more, at_drop_all}
use Rattle.channel.specs.States.{all_eq}

pub all_eq-apart : (xs ys : List (List ℕ)) → (length xs ≡ length ys → ⊥) → false ≡ all_eq xs ys
all_eq-apart [] [] n = absurd (n refl)
all_eq-apart [] (y ∷ ys) n = refl
all_eq-apart (x ∷ xs) [] n = refl
all_eq-apart (x ∷ xs) (y ∷ ys) n = sym (and_right (bytes_eq x y) (all_eq xs ys) (sym (all_eq-apart xs ys (λ e. n (ap suc e)))))

pub all_eq-more : (xs ys : List (List ℕ)) (i : ℕ) (d e : List ℕ) → i < length xs → i < length ys → all_eq (drop i xs) (drop i ys) ≡ bytes_eq (get_or xs i d) (get_or ys i e) && all_eq (drop (i + 1) xs) (drop (i + 1) ys)
all_eq-more xs ys i d e h k = λ j. all_eq (drop_more xs i d h j) (drop_more ys i e k j)

pub all_eq-end : (xs ys : List (List ℕ)) (i : ℕ) → length xs ≤ i → length ys ≤ i → all_eq (drop i xs) (drop i ys) ≡ true
all_eq-end xs ys i h k = at_drop_all (λ l. all_eq l (drop i ys)) xs i h ∙ at_drop_all (λ l. all_eq [] l) ys i k
