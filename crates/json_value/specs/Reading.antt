-- What a text is read as.
use Rattle.std.specs.Prelude.{◌≡◌, Option, Some, None, Result, Ok, Err}
use Rattle.serde_json.specs.Data.{Data}
use Rattle.json_value.specs.View.{view}
use Rattle.json_value.specs.declared.value.Value.{Value}
use Rattle.json_value.specs.declared.errors.ReadError.{ReadError}
use Rattle.json_value.specs.declared.errors.ReadError.TheVariants.{NoMemory, NotJson}

-- a text is read as this value, unless memory ran out, or it is none
abbrev pub IsRead : Result Value ReadError → Option Data → Type 0
IsRead (Ok v) value = value ≡ Some (view v)
IsRead (Err NoMemory) value = Unit {0}
IsRead (Err NotJson) value = value ≡ None
