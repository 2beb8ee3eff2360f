-- Lists: what stands at an index, and facts of each element.
use Rattle.std.proofs.Common.{◌≡◌, ℕ, zero, suc, ◌<◌, List, [], ◌∷◌, map, length, Some, refl, subst, ⊎_elim, arith}
use Rattle.std.specs.Prelude.{slice_get}
use Rattle.std.specs.List.{AllByRecursion, Contains}
use Rattle.safety.proofs.Slots.{contains_cases}
use Rattle.safety.proofs.Lists.{contains_none}

-- something stands at each index within the list
pub within : {X : Type 0} (xs : List X) (n : ℕ) → n < length xs → (x : X) × (slice_get xs n ≡ Some x)
within [] n l = absurd (omega (arith, l))
within (x ∷ xs) zero l = (x, refl)
within (x ∷ xs) (suc n) l = within xs n (omega (arith, l))

pub all_from : {X : Type 0} (P Q : X → Type 0) → ((x : X) → P x → Q x) → (xs : List X) → AllByRecursion P xs → AllByRecursion Q xs
all_from P Q f [] h = tt
all_from P Q f (x ∷ xs) h = (f x h.0, all_from P Q f xs h.1)

pub all_mapped : {X Y : Type 0} (P : Y → Type 0) (f : X → Y) (xs : List X) → AllByRecursion (λ x. P (f x)) xs → AllByRecursion P (map f xs)
all_mapped P f [] h = tt
all_mapped P f (x ∷ xs) h = (h.0, all_mapped P f xs h.1)

-- an element that is there has what each has
pub of_each : {X : Type 0} (P : X → Type 0) (xs : List X) (x : X) → AllByRecursion P xs → Contains xs x → P x
of_each P [] x h i = absurd (contains_none x i)
of_each {X} P (y ∷ ys) x h i = ⊎_elim {C = P x} (λ (e : y ≡ x). subst P e h.0) (λ (j : Contains ys x). of_each P ys x h.1 j) (contains_cases y ys x i)
