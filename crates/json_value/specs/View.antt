-- The data that a value stands for.
use Rattle.std.specs.Prelude.{List, map, String, string_bytes}
use Rattle.std.specs.declared.alloc.Global.{Global}
use Rattle.serde_json.specs.Data.{Data, null, boolean, number, string, array, object, Items, Members}
use Rattle.serde_json.specs.View.{number_view, items_of, members_of}
use Rattle.json_value.specs.declared.value.Value.{Value, fold-Value}
use Rattle.json_value.specs.declared.value.Value.TheOpen.{Value-F}

-- one level, with each value inside already seen as its data
abbrev pub view_step : Value-F Data → Data
view_step Value-F.Null = null
view_step (Value-F.Bool b) = boolean b
view_step (Value-F.Number x) = number (number_view x)
view_step (Value-F.String s) = string (string_bytes s)
view_step (Value-F.Array v) = array (items_of v.items)
view_step (Value-F.Object m) = object (members_of m.items)

abbrev pub view : Value → Data
view = fold-Value Data view_step

abbrev pub items_view : List Value → Items
items_view vs = items_of (map view vs)

abbrev pub members_view : List (String Global × Value) → Members
members_view ms = members_of (map (λ m. (m.0, view m.1)) ms)
