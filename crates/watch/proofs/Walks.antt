-- Loops over lists, in which what is left gives the whole.
use Rattle.std.proofs.Common.{◌≡◌, ℕ, Bool, ◌+◌, ◌<◌, ◌≤◌, List, [], ◌∷◌, ◌++◌, map, drop, take, length, get_or, sym, ap, ◌∙◌, refl, append_assoc, append-nil, add-one}
use Rattle.std.specs.Prelude.{filter, Option}
use Rattle.std.specs.List.{filter_map, flat_map}
use Rattle.std.proofs.Math.Seq.{drop-cons, take-append_seam}
use Rattle.std.proofs.lemmas.List.{drop_all, map-append}
use Rattle.std.proofs.lemmas.List.Elements.{filter-append, filter_map-append}
use Rattle.std.proofs.lemmas.Grind.{flat_map-append}
use Rattle.watch.specs.Watching.{Extends}

split : {A : Type 0} (xs : List A) (i : ℕ) (x : A) → i < length xs → x ≡ get_or xs i x → drop i xs ≡ x ∷ drop (i + 1) xs
split xs i x l e = drop-cons xs i x l ∙ rw (add-one, ← e) refl

pub on : {A B : Type 0} (g : List A → List B) → ((x : A) (xs : List A) → g (x ∷ xs) ≡ g (x ∷ []) ++ g xs) → (done new whole : List B) (i : ℕ) (xs : List A) (x : A)
    → i < length xs → x ≡ get_or xs i x → done ++ g (drop i xs) ≡ whole → new ≡ done ++ g (x ∷ []) → new ++ g (drop (i + 1) xs) ≡ whole
on g parts done new whole i xs x l e h n =
    ap (λ ys. ys ++ g (drop (i + 1) xs)) n ∙ append_assoc done (g (x ∷ [])) (g (drop (i + 1) xs))
    ∙ ap (λ ys. done ++ ys) (sym (ap g (split xs i x l e) ∙ parts x (drop (i + 1) xs))) ∙ h

pub end : {A B : Type 0} (g : List A → List B) → g [] ≡ [] → (done whole : List B) (i : ℕ) (xs : List A) → length xs ≤ i → done ++ g (drop i xs) ≡ whole → done ≡ whole
end g nil done whole i xs l h = sym (append-nil done) ∙ ap (λ ys. done ++ ys) (sym (ap g (drop_all i xs l) ∙ nil)) ∙ h

pub filtered : {A B : Type 0} (f : A → B) (p : A → Bool) (x : A) (xs : List A) → map f (filter p (x ∷ xs)) ≡ map f (filter p (x ∷ [])) ++ map f (filter p xs)
filtered f p x xs = ap (map f) (filter-append p (x ∷ []) xs) ∙ map-append f (filter p (x ∷ [])) (filter p xs)

pub filter_mapped : {A B : Type 0} (f : A → Option B) (x : A) (xs : List A) → filter_map f (x ∷ xs) ≡ filter_map f (x ∷ []) ++ filter_map f xs
filter_mapped f x xs = filter_map-append f (x ∷ []) xs

pub flat_mapped : {A B : Type 0} (f : A → List B) (x : A) (xs : List A) → flat_map f (x ∷ xs) ≡ flat_map f (x ∷ []) ++ flat_map f xs
flat_mapped f x xs = flat_map-append f (x ∷ []) xs

-- what stood there first stands there still
pub same : {A : Type 0} (a b : List A) → b ≡ a → Extends a b
same a b e = record { more = []; is = e ∙ sym (append-nil a) }

pub longer : {A : Type 0} (a b c d : List A) → Extends a b → c ≡ b ++ d → Extends a c
longer a b c d u e = record { more = u.more ++ d; is = e ∙ ap (λ y. y ++ d) u.is ∙ append_assoc a u.more d }

pub through : {A : Type 0} (a b c : List A) → Extends a b → Extends b c → Extends a c
through a b c u v = longer a b c v.more u v.is

pub cut : {A : Type 0} (a b : List A) → Extends a b → take (length a) b ≡ a
cut a b u = ap (take (length a)) u.is ∙ take-append_seam a u.more
