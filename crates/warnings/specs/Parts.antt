-- Bytes at a place of other bytes.
use Rattle.std.specs.Prelude.{ℕ, Bool, false, ◌&&◌, ◌||◌, nat_le, nat_eq, List, [], ◌∷◌, length, drop}
use Rattle.std.specs.List.{starts_with}

-- a part stands at a position
abbrev pub has_at : ℕ → List ℕ → List ℕ → Bool
has_at at part bytes = nat_le at (length bytes) && starts_with nat_eq (drop at bytes) part

-- a part stands at some position before the end
abbrev pub has_part : List ℕ → List ℕ → Bool
has_part part [] = false
has_part part (b ∷ bytes) = starts_with nat_eq (b ∷ bytes) part || has_part part bytes
