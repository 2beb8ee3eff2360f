-- Two equal byte strings, found by what was seen before.
use Rattle.std.proofs.Common.{◌≡◌, ℕ, Bool, true, false, cond, ◌||◌, List, [], ◌∷◌, sym, ap, ◌∙◌, refl, nat_cmp}
use Rattle.std.specs.List.{list_any}
use Rattle.std.specs.Ordering.{is_eq}
use Rattle.std.specs.Cmp.Lexicographic.{slice_cmp}
use Rattle.std.specs.Str.{bytes_eq}
use Rattle.std.proofs.lemmas.Map.Text.{is_eq-slice_cmp}
use Rattle.filling.specs.Refusals.{has_repeat}

-- one of the byte strings passes the test, or is the same as one before it
abbrev pub repeats_with : (List ℕ → Bool) → List (List ℕ) → Bool
repeats_with seen [] = false
repeats_with seen (x ∷ xs) = seen x || repeats_with (λ q. bytes_eq x q || seen q) xs

pub repeats-same : (f g : List ℕ → Bool) → ((q : List ℕ) → f q ≡ g q) → (xs : List (List ℕ)) → repeats_with f xs ≡ repeats_with g xs
repeats-same f g h [] = refl
repeats-same f g h (x ∷ xs) = ap (λ t. t || repeats_with (λ q. bytes_eq x q || f q) xs) (h x) ∙ ap (λ t. g x || t) (repeats-same (λ q. bytes_eq x q || f q) (λ q. bytes_eq x q || g q) (λ q. ap (λ t. bytes_eq x q || t) (h q)) xs)

shuffled : (a b c d : Bool) → ((a || b) || (c || d)) ≡ ((a || c) || (b || d))
shuffled true b c d = refl
shuffled false true true d = refl
shuffled false true false d = refl
shuffled false false c d = refl

any-or : (f g : List ℕ → Bool) (xs : List (List ℕ)) → list_any (λ q. f q || g q) xs ≡ (list_any f xs || list_any g xs)
any-or f g [] = refl
any-or f g (x ∷ xs) = ap (λ t. (f x || g x) || t) (any-or f g xs) ∙ shuffled (f x) (g x) (list_any f xs) (list_any g xs)

parted : (s a b r : Bool) → (s || ((a || b) || r)) ≡ ((s || b) || (a || r))
parted true a b r = refl
parted false true true r = refl
parted false true false r = refl
parted false false b r = refl

repeats-parts : (f : List ℕ → Bool) (xs : List (List ℕ)) → repeats_with f xs ≡ (list_any f xs || has_repeat xs)
repeats-parts f [] = refl
repeats-parts f (x ∷ xs) =
    ap (λ t. f x || t) (repeats-parts (λ q. bytes_eq x q || f q) xs ∙ ap (λ t. t || has_repeat xs) (any-or (bytes_eq x) f xs))
    ∙ parted (f x) (list_any (bytes_eq x) xs) (list_any f xs) (has_repeat xs)

none : (xs : List (List ℕ)) → list_any (λ x. false) xs ≡ false
none [] = refl
none (x ∷ xs) = none xs

pub repeats-all : (xs : List (List ℕ)) → repeats_with (λ x. false) xs ≡ has_repeat xs
repeats-all xs = repeats-parts (λ x. false) xs ∙ ap (λ t. t || has_repeat xs) (none xs)

pub repeats-hit : (f : List ℕ → Bool) (x : List ℕ) (xs : List (List ℕ)) → f x ≡ true → repeats_with f (x ∷ xs) ≡ true
repeats-hit f x xs e = ap (λ t. t || repeats_with (λ q. bytes_eq x q || f q) xs) e

as_or : (t b : Bool) → cond t true b ≡ (t || b)
as_or true b = refl
as_or false b = refl

-- a byte string that was not seen is kept
pub repeats-next : (f g : List ℕ → Bool) (x : List ℕ) (xs : List (List ℕ)) → f x ≡ false → ((q : List ℕ) → g q ≡ cond (is_eq (slice_cmp nat_cmp x q)) true (f q)) → repeats_with g xs ≡ repeats_with f (x ∷ xs)
repeats-next f g x xs e h =
    repeats-same g (λ q. bytes_eq x q || f q) (λ q. h q ∙ ap (λ t. cond t true (f q)) (is_eq-slice_cmp x q) ∙ as_or (bytes_eq x q) (f q)) xs
    ∙ sym (ap (λ t. t || repeats_with (λ q. bytes_eq x q || f q) xs) e)
