-- Lists all of whose elements pass a test.
use Rattle.std.proofs.Common.{◌≡◌, Bool, true, false, List, [], ◌∷◌, refl}
use Rattle.std.specs.List.{list_all}

pub list_all-always : {A : Type 0} (p : A → Bool) → ((x : A) → p x ≡ true) → (xs : List A) → list_all p xs ≡ true
list_all-always p always [] = refl
list_all-always p always (x ∷ xs) = rw (always x, list_all-always p always xs) refl

pub contradicts : (b : Bool) → b ≡ true → b ≡ false → ⊥
contradicts true e f = cc
contradicts false e f = cc
