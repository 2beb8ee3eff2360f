-- That strings of two lists do not collide, where each stands by its number in one list: numbers are compared, and not what stands there. So what is hashed for a digest need not be computed again.
use Rattle.std.proofs.Common.{◌≡◌, ℕ, zero, suc, true, List, [], ◌∷◌, ◌++◌, map, sym, ap, ◌∙◌, refl, subst}
use Rattle.std.specs.List.{Contains}
use Rattle.std.proofs.lemmas.List.{map-append}
use Rattle.safety.proofs.Tests.{from_map}
use Rattle.chain_examples.proofs.Marks.{beginning, beginnings, marked, are_apart, NoneCollide, none_collide}

abbrev pick : List ℕ → List (List ℕ) → ℕ → List ℕ
pick none [] n = none
pick none (x ∷ xs) zero = x
pick none (x ∷ xs) (suc n) = pick none xs n

-- what stands at a number, which is a string of one byte
abbrev pub at : List ℕ → List (List ℕ) → List ℕ → List ℕ
at none all [] = none
at none all (n ∷ ns) = pick none all n

through : (hash f : List ℕ → List ℕ) (xs : List (List ℕ)) → beginnings (λ x. hash (f x)) xs ≡ beginnings hash (map f xs)
through hash f [] = refl
through hash f (x ∷ xs) = ap (λ (ns : List ℕ). beginning (hash (f x)) ∷ ns) (through hash f xs)

pub none_numbered : (hash : List ℕ → List ℕ) (all xs ys first second : List (List ℕ)) (ms ns : List ℕ) → map (at [] all) xs ≡ first → map (at [] all) ys ≡ second → beginnings hash first ≡ ms → beginnings hash second ≡ ns
    → are_apart (marked xs ms) (marked ys ns) ≡ true → NoneCollide hash first second
none_numbered hash all xs ys first second ms ns e g m n apart a b i j c =
    let p = from_map (at [] all) xs a (subst (λ (zs : List (List ℕ)). Contains zs a) (sym e) i) in
    let q = from_map (at [] all) ys b (subst (λ (zs : List (List ℕ)). Contains zs b) (sym g) j) in
    none_collide (λ x. hash (at [] all x)) xs ys ms ns (through hash (at [] all) xs ∙ ap (beginnings hash) e ∙ m) (through hash (at [] all) ys ∙ ap (beginnings hash) g ∙ n) apart p.0 q.0 p.1 q.1
    ((λ (h : p.0 ≡ q.0). c.0 (sym p.2 ∙ ap (at [] all) h ∙ q.2)), ap hash p.2 ∙ c.1 ∙ sym (ap hash q.2))

-- ---- and their hashes, by those of the list

picked : (hash : List ℕ → List ℕ) (none : List ℕ) (all : List (List ℕ)) (n : ℕ) → hash (pick none all n) ≡ pick (hash none) (map hash all) n
picked hash none [] n = refl
picked hash none (x ∷ xs) zero = refl
picked hash none (x ∷ xs) (suc n) = picked hash none xs n

one_hashed : (hash : List ℕ → List ℕ) (all : List (List ℕ)) (x : List ℕ) → hash (at [] all x) ≡ at (hash []) (map hash all) x
one_hashed hash all [] = refl
one_hashed hash all (n ∷ ns) = picked hash [] all n

each_hashed : (hash : List ℕ → List ℕ) (all xs : List (List ℕ)) → map hash (map (at [] all) xs) ≡ map (at (hash []) (map hash all)) xs
each_hashed hash all [] = refl
each_hashed hash all (x ∷ xs) = ap (λ (y : List ℕ). y ∷ map hash (map (at [] all) xs)) (one_hashed hash all x) ∙ ap (λ (ys : List (List ℕ)). at (hash []) (map hash all) x ∷ ys) (each_hashed hash all xs)

pub hashed_at : (hash : List ℕ → List ℕ) (all xs first ds : List (List ℕ)) → map (at [] all) xs ≡ first → map hash all ≡ ds → map hash first ≡ map (at (hash []) ds) xs
hashed_at hash all xs first ds e d = ap (map hash) (sym e) ∙ each_hashed hash all xs ∙ ap (λ (ys : List (List ℕ)). map (at (hash []) ys) xs) d

-- ---- and how their hashes begin, by how those of the list do

abbrev pick_begun : ℕ → List ℕ → ℕ → ℕ
pick_begun none [] n = none
pick_begun none (x ∷ xs) zero = x
pick_begun none (x ∷ xs) (suc n) = pick_begun none xs n

abbrev pub begun : ℕ → List ℕ → List ℕ → ℕ
begun none bs [] = none
begun none bs (n ∷ ns) = pick_begun none bs n

picked_begun : (hash : List ℕ → List ℕ) (none : List ℕ) (all : List (List ℕ)) (n : ℕ) → beginning (hash (pick none all n)) ≡ pick_begun (beginning (hash none)) (beginnings hash all) n
picked_begun hash none [] n = refl
picked_begun hash none (x ∷ xs) zero = refl
picked_begun hash none (x ∷ xs) (suc n) = picked_begun hash none xs n

one_begun : (hash : List ℕ → List ℕ) (all : List (List ℕ)) (x : List ℕ) → beginning (hash (at [] all x)) ≡ begun (beginning (hash [])) (beginnings hash all) x
one_begun hash all [] = refl
one_begun hash all (n ∷ ns) = picked_begun hash [] all n

each_begun : (hash : List ℕ → List ℕ) (all xs : List (List ℕ)) → beginnings hash (map (at [] all) xs) ≡ map (begun (beginning (hash [])) (beginnings hash all)) xs
each_begun hash all [] = refl
each_begun hash all (x ∷ xs) =
    ap (λ (n : ℕ). n ∷ beginnings hash (map (at [] all) xs)) (one_begun hash all x) ∙ ap (λ (ns : List ℕ). begun (beginning (hash [])) (beginnings hash all) x ∷ ns) (each_begun hash all xs)

pub begun_at : (hash : List ℕ → List ℕ) (all xs first : List (List ℕ)) (bs : List ℕ) → map (at [] all) xs ≡ first → beginnings hash all ≡ bs → beginnings hash first ≡ map (begun (beginning (hash [])) bs) xs
begun_at hash all xs first bs e d = ap (beginnings hash) (sym e) ∙ each_begun hash all xs ∙ ap (λ (ns : List ℕ). map (begun (beginning (hash [])) ns) xs) d

-- of two lists, one behind the other
pub begun_with : (hash : List ℕ → List ℕ) (xs ys : List (List ℕ)) (ms ns : List ℕ) → beginnings hash xs ≡ ms → beginnings hash ys ≡ ns → beginnings hash (xs ++ ys) ≡ ms ++ ns
begun_with hash xs ys ms ns m n =
    map-append (λ (x : List ℕ). beginning (hash x)) xs ys ∙ ap (λ (ks : List ℕ). ks ++ beginnings hash ys) m ∙ ap (λ (ks : List ℕ). ms ++ ks) n
