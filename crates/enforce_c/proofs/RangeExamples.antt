-- Which items a row refers to, on both sides of each bound.
use Rattle.std.proofs.Common.{◌≡◌, ℕ, true, false, List, [], ◌∷◌, refl}
use Rattle.enforce_c.specs.Ranges.{has_part, part}

abbrev three : List ℕ
three = 7 ∷ 8 ∷ 9 ∷ []

there : (has_part 0 3 three ≡ true) × (has_part 1 2 three ≡ true) × (has_part 3 0 three ≡ true) × (has_part 0 0 three ≡ true)
there = (refl, refl, refl, refl)

missing : (has_part 0 4 three ≡ false) × (has_part 1 3 three ≡ false) × (has_part 3 1 three ≡ false) × (has_part 4 0 three ≡ false)
missing = (refl, refl, refl, refl)

parts : (part 0 3 three ≡ three) × (part 1 2 three ≡ 8 ∷ 9 ∷ []) × (part 1 1 three ≡ 8 ∷ []) × (part 3 0 three ≡ [])
parts = (refl, refl, refl, refl)
