-- Arrays and objects that are written one part after another.
use Rattle.std.specs.Prelude.{List, map}
use Rattle.serde_json.specs.Data.{Data, Members}
use Rattle.serde_json.specs.View.{view, members_view}
use Rattle.texts.specs.declared.compound.ArrayWriter.{ArrayWriter}
use Rattle.texts.specs.declared.compound.ObjectWriter.{ObjectWriter}

-- the items written so far
abbrev pub items_in : ArrayWriter → List Data
items_in w = map view w.items.items

-- the members written so far
abbrev pub members_in : ObjectWriter → Members
members_in w = members_view w.members.entries
