-- The claims of a side were accepted.
use Rattle.std.proofs.Common.{ℕ, zero, suc, List, [], ◌∷◌, ◌++◌, map, take, drop}
use Rattle.std.specs.List.{AllByRecursion, flat_map}
use Rattle.claim.specs.Claims.{IsWhole}
use Rattle.book.specs.Accepted.{claims_by}
use Rattle.world.specs.Worlds.{Node, IsNode}
use Rattle.world.specs.Theorem.{claims_of}

-- ---- lists

pub all_append : {A : Type 0} (P : A → Type 0) (xs ys : List A) → AllByRecursion P xs → AllByRecursion P ys → AllByRecursion P (xs ++ ys)
all_append P [] ys u v = v
all_append P (x ∷ xs) ys u v = (u.0, all_append P xs ys u.1 v)

pub all_map : {A B : Type 0} (P : B → Type 0) (f : A → B) (xs : List A) → AllByRecursion (λ x. P (f x)) xs → AllByRecursion P (map f xs)
all_map P f [] u = tt
all_map P f (x ∷ xs) u = (u.0, all_map P f xs u.1)

pub all_flat_map : {A B : Type 0} (P : B → Type 0) (f : A → List B) (xs : List A) → AllByRecursion (λ x. AllByRecursion P (f x)) xs → AllByRecursion P (flat_map f xs)
all_flat_map P f [] u = tt
all_flat_map P f (x ∷ xs) u = all_append P (f x) (flat_map f xs) u.0 (all_flat_map P f xs u.1)

pub all_drop : {A : Type 0} (P : A → Type 0) (k : ℕ) (xs : List A) → AllByRecursion P xs → AllByRecursion P (drop k xs)
all_drop P zero xs u = u
all_drop P (suc k) [] u = tt
all_drop P (suc k) (x ∷ xs) u = all_drop P k xs u.1

pub all_take : {A : Type 0} (P : A → Type 0) (k : ℕ) (xs : List A) → AllByRecursion P xs → AllByRecursion P (take k xs)
all_take P zero xs u = tt
all_take P (suc k) [] u = tt
all_take P (suc k) (x ∷ xs) u = (u.0, all_take P k xs u.1)

-- ---- the claims of a side

pub are_whole : (n : Node) → IsNode n → AllByRecursion IsWhole (claims_of n)
are_whole n is =
    all_append IsWhole (flat_map (λ e. claims_by e.call) n.history) (map (λ j. j.claim) (n.jobs ++ n.taken))
    (all_flat_map IsWhole (λ e. claims_by e.call) n.history is.claims_are_whole)
    (all_map IsWhole (λ j. j.claim) (n.jobs ++ n.taken) (all_append (λ j. IsWhole j.claim) n.jobs n.taken is.jobs is.taken))
