-- That no two of many strings have one hash, by a table of the first four bytes of each hash. So each hash is computed once, however many strings are compared.
use Rattle.std.proofs.Common.{◌≡◌, ℕ, ◌+◌, ◌*◌, Bool, true, not, List, [], ◌∷◌, map, sym, ap, ◌∙◌, refl, subst, ⊎_elim, eq-eqb}
use Rattle.std.specs.Prelude.{◌&&◌, ◌||◌, ◌==◌, take}
use Rattle.std.specs.List.{Contains, list_all}
use Rattle.std.specs.Str.{bytes_eq}
use Rattle.std.proofs.lemmas.Bool.{and_parts}
use Rattle.sha2.specs.Sha256.{sha256}
use Rattle.digest.specs.Hash.{hash160, Collide}
use Rattle.digest.specs.Ripemd160.{ripemd160}
use Rattle.safety.proofs.Slots.{contains_cases, same_bytes}
use Rattle.safety.proofs.Lists.{contains_none, contains_map}
use Rattle.safety.proofs.Tests.{all_hold, or_then}

abbrev pub number_in : ℕ → List ℕ → ℕ
number_in n [] = n
number_in n (b ∷ bs) = number_in (256 * n + b) bs

-- the first four bytes of a hash, as a number
abbrev pub beginning : List ℕ → ℕ
beginning hash = number_in 0 (take 4 hash)

-- a string, and how its hash begins
pub record Marked : Type 0 where
  pub bytes : List ℕ
  pub begins : ℕ

abbrev pub mark : (List ℕ → List ℕ) → List ℕ → Marked
mark hash x = record { bytes = x; begins = beginning (hash x) }

abbrev pub beginnings : (List ℕ → List ℕ) → List (List ℕ) → List ℕ
beginnings hash xs = map (λ x. beginning (hash x)) xs

-- strings with what a table has for them
abbrev pub marked : List (List ℕ) → List ℕ → List Marked
marked [] ns = []
marked (x ∷ xs) [] = []
marked (x ∷ xs) (n ∷ ns) = record { bytes = x; begins = n } ∷ marked xs ns

-- two that begin alike are the same
abbrev pub is_apart : Marked → Marked → Bool
is_apart x y = not (x.begins == y.begins) || bytes_eq x.bytes y.bytes

-- those of one list from those of another, and those of one list from each other
abbrev pub are_apart : List Marked → List Marked → Bool
are_apart xs ys = list_all (λ x. list_all (is_apart x) ys) xs

abbrev pub are_distinct : List Marked → Bool
are_distinct [] = true
are_distinct (x ∷ xs) = list_all (is_apart x) xs && are_distinct xs

-- ---- what they say

abbrev pub NoneCollide : (List ℕ → List ℕ) → List (List ℕ) → List (List ℕ) → Type 0
NoneCollide hash xs ys = (a b : List ℕ) → Contains xs a → Contains ys b → Collide hash a b → ⊥

as_marked : (hash : List ℕ → List ℕ) (xs : List (List ℕ)) → marked xs (beginnings hash xs) ≡ map (mark hash) xs
as_marked hash [] = refl
as_marked hash (x ∷ xs) = ap (λ (ys : List Marked). mark hash x ∷ ys) (as_marked hash xs)

two_apart : (hash : List ℕ → List ℕ) (a b : List ℕ) → is_apart (mark hash a) (mark hash b) ≡ true → Collide hash a b → ⊥
two_apart hash a b e c =
    c.0 (same_bytes a b (or_then (beginning (hash a) == beginning (hash b)) (bytes_eq a b) (eq-eqb (beginning (hash a)) (beginning (hash b)) (ap beginning c.1)) e))

from_all : (hash : List ℕ → List ℕ) (x : List ℕ) (xs : List (List ℕ)) → list_all (is_apart (mark hash x)) (map (mark hash) xs) ≡ true → (y : List ℕ) → Contains xs y → Collide hash x y → ⊥
from_all hash x xs e y i = two_apart hash x y (all_hold (is_apart (mark hash x)) (map (mark hash) xs) e (mark hash y) (contains_map (mark hash) xs y i))

turned : (hash : List ℕ → List ℕ) (a b : List ℕ) → Collide hash a b → Collide hash b a
turned hash a b c = ((λ e. c.0 (sym e)), sym c.1)

distinct_collide : (hash : List ℕ → List ℕ) (xs : List (List ℕ)) → are_distinct (map (mark hash) xs) ≡ true → NoneCollide hash xs xs
distinct_collide hash [] e a b i j c = contains_none a i
distinct_collide hash (x ∷ xs) e a b i j c =
    let r = and_parts (list_all (is_apart (mark hash x)) (map (mark hash) xs)) (are_distinct (map (mark hash) xs)) e in
    ⊎_elim {C = ⊥}
    (λ (p : x ≡ a). ⊎_elim {C = ⊥} (λ (q : x ≡ b). c.0 (sym p ∙ q)) (λ (k : Contains xs b). from_all hash x xs r.0 b k (subst (λ (y : List ℕ). Collide hash y b) (sym p) c)) (contains_cases x xs b j))
    (λ (h : Contains xs a).
    ⊎_elim {C = ⊥} (λ (q : x ≡ b). from_all hash x xs r.0 a h (subst (λ (y : List ℕ). Collide hash y a) (sym q) (turned hash a b c)))
    (λ (k : Contains xs b). distinct_collide hash xs r.1 a b h k c) (contains_cases x xs b j))
    (contains_cases x xs a i)

-- by tables of what the hashes begin with
pub none_collide : (hash : List ℕ → List ℕ) (xs ys : List (List ℕ)) (ms ns : List ℕ) → beginnings hash xs ≡ ms → beginnings hash ys ≡ ns → are_apart (marked xs ms) (marked ys ns) ≡ true → NoneCollide hash xs ys
none_collide hash xs ys ms ns m n e a b i j =
    let g : are_apart (map (mark hash) xs) (map (mark hash) ys) ≡ true =
    ap (λ (zs : List Marked). are_apart zs (map (mark hash) ys)) (sym (as_marked hash xs)) ∙ ap (λ (zs : List Marked). are_apart (marked xs (beginnings hash xs)) zs) (sym (as_marked hash ys))
    ∙ ap (λ (ks : List ℕ). are_apart (marked xs ks) (marked ys (beginnings hash ys))) m ∙ ap (λ (ks : List ℕ). are_apart (marked xs ms) (marked ys ks)) n ∙ e in
    from_all hash a ys (all_hold (λ (x : Marked). list_all (is_apart x) (map (mark hash) ys)) (map (mark hash) xs) g (mark hash a) (contains_map (mark hash) xs a i)) b j

pub no_two : (hash : List ℕ → List ℕ) (xs : List (List ℕ)) (ns : List ℕ) → beginnings hash xs ≡ ns → are_distinct (marked xs ns) ≡ true → NoneCollide hash xs xs
no_two hash xs ns n e = distinct_collide hash xs (ap are_distinct (sym (as_marked hash xs)) ∙ ap (λ (ks : List ℕ). are_distinct (marked xs ks)) n ∙ e)

-- HASH160 of a string is RIPEMD-160 of its SHA-256
pub shorter : (xs : List (List ℕ)) → beginnings ripemd160 (map sha256 xs) ≡ beginnings hash160 xs
shorter [] = refl
shorter (x ∷ xs) = ap (λ (ns : List ℕ). beginning (hash160 x) ∷ ns) (shorter xs)

-- ---- with a table of the hashes themselves

beginnings_map : (hash : List ℕ → List ℕ) (xs : List (List ℕ)) → beginnings hash xs ≡ map beginning (map hash xs)
beginnings_map hash [] = refl
beginnings_map hash (x ∷ xs) = ap (λ (ns : List ℕ). beginning (hash x) ∷ ns) (beginnings_map hash xs)

pub from_hashes : (hash : List ℕ → List ℕ) (xs hs : List (List ℕ)) → map hash xs ≡ hs → beginnings hash xs ≡ map beginning hs
from_hashes hash xs hs e = beginnings_map hash xs ∙ ap (map beginning) e

-- of a hash of the hash
second_map : (first second : List ℕ → List ℕ) (xs : List (List ℕ)) → beginnings (λ x. second (first x)) xs ≡ beginnings second (map first xs)
second_map first second [] = refl
second_map first second (x ∷ xs) = ap (λ (ns : List ℕ). beginning (second (first x)) ∷ ns) (second_map first second xs)

pub from_first : (first second : List ℕ → List ℕ) (xs hs : List (List ℕ)) → map first xs ≡ hs → beginnings (λ x. second (first x)) xs ≡ beginnings second hs
from_first first second xs hs e = second_map first second xs ∙ ap (beginnings second) e
