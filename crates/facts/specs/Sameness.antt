-- Whether two facts are the same.
use Rattle.std.specs.Prelude.{Bool, false, ◌&&◌, ◌||◌, not, ◌==◌, if◌then◌else◌, List, [], ◌∷◌}
use Rattle.std.specs.Str.{bytes_eq}
use Rattle.std.specs.List.{list_any}
use lib.Pointwise.{pointwise}
use Rattle.facts.specs.Symbols.{KeySource}
use Rattle.facts.specs.declared.symbols.KeySourceOver.TheVariants.{Const as FixedKey, Slot as SlotKey}
use Rattle.facts.specs.Symbols.{Fact}
use Rattle.facts.specs.declared.symbols.FactOver.TheVariants.{Hash, Size, Truth, Is, KeyForm, Form, Token, Assigned, Lock, Age}
use Rattle.facts.specs.Symbols.{Stated}

abbrev pub same_key : KeySource → KeySource → Bool
same_key (FixedKey a) (FixedKey b) = bytes_eq a b
same_key (SlotKey i) (SlotKey j) = i == j
same_key a b = false

abbrev pub same_keys : List KeySource → List KeySource → Bool
same_keys ks ls = pointwise same_key ks ls

-- two facts are the same
abbrev pub same_fact : Fact → Fact → Bool
same_fact (Hash i a) (Hash j b) = i == j && bytes_eq a b
same_fact (Size i m) (Size j n) = i == j && m == n
same_fact (Truth i) (Truth j) = i == j
same_fact (Is i a) (Is j b) = i == j && bytes_eq a b
same_fact (KeyForm i) (KeyForm j) = i == j
same_fact (Form i) (Form j) = i == j
same_fact (Token i k) (Token j l) = i == j && same_key k l
same_fact (Assigned is ks) (Assigned js ls) = bytes_eq is js && same_keys ks ls
same_fact (Lock m) (Lock n) = m == n
same_fact (Age m) (Age n) = m == n
same_fact f g = false

-- the list has the fact with the other polarity
abbrev pub is_denied : Stated → List Stated → Bool
is_denied s facts =
    list_any (λ t. same_fact s.fact t.fact && (if s.holds then not t.holds else t.holds)) facts

-- the list has some fact with both polarities
abbrev pub contradicts : List Stated → Bool
contradicts [] = false
contradicts (s ∷ facts) = is_denied s facts || contradicts facts
