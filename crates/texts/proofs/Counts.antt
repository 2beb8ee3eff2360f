-- An array of a `Value` has as many items as its list, and an object as many members as its list.
use Rattle.std.proofs.Common.{◌≡◌, suc, List, [], ◌∷◌, length, String, Global, ap, refl}
use Rattle.json_value.specs.View.{items_view, members_view}
use Rattle.json_value.specs.declared.value.Value.{Value}
use Rattle.texts.specs.Values.{item_count, member_count}

pub items_counted : (vs : List Value) → item_count (items_view vs) ≡ length vs
items_counted [] = refl
items_counted (v ∷ vs) = ap suc (items_counted vs)

pub members_counted : (ms : List (String Global × Value)) → member_count (members_view ms) ≡ length ms
members_counted [] = refl
members_counted (m ∷ ms) = ap suc (members_counted ms)
