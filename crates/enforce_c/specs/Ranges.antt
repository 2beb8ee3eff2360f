-- The items that a row refers to.
use Rattle.std.specs.Prelude.{ℕ, ◌-◌, Bool, ◌&&◌, nat_le, List, length, take, drop}

-- whether there are at least `count` items from an index on
abbrev pub has_part : {A : Type 0} → ℕ → ℕ → List A → Bool
has_part at count items = nat_le at (length items) && nat_le count (length items - at)

-- those items
abbrev pub part : {A : Type 0} → ℕ → ℕ → List A → List A
part at count items = take count (drop at items)
