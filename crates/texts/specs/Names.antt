-- An object with as many members as a list has names, and with a member for each of them, has no other member.
use Rattle.std.specs.Prelude.{◌≡◌, ℕ, Bool, true, List, length, is_some}
use Rattle.std.specs.Str.{bytes_eq}
use Rattle.std.specs.Set.{is_member}
use Rattle.std.specs.List.{IsDistinct}
use Rattle.serde_json.specs.Data.{Data}
use Rattle.serde_json.specs.Find.{get}
use Rattle.texts.specs.Values.{object_of}

-- whether an object has a member of this name
abbrev pub has : Data → List ℕ → Bool
has d name = is_some (get name d)

abbrev pub NamesAreAll : Type 0
NamesAreAll =
    (names : List (List ℕ)) (d : Data) → IsDistinct bytes_eq names → is_some (object_of (length names) d) ≡ true
    → ((name : List ℕ) → is_member bytes_eq names name ≡ true → has d name ≡ true)
    → (name : List ℕ) → has d name ≡ true → is_member bytes_eq names name ≡ true
