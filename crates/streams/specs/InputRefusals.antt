-- The numbers of the refusals.
use Rattle.std.specs.Prelude.{ℕ, List, codes}
use Rattle.streams.specs.declared.input.InputError.{InputError}
use Rattle.streams.specs.declared.input.InputError.TheVariants.{NoMemory, ReadFailed, TooLong, BadHex}

-- why an input is refused before its content is looked at
abbrev pub input_number : InputError → ℕ
input_number NoMemory = 0
input_number ReadFailed = 1
input_number TooLong = 2
input_number BadHex = 3

-- its name
abbrev pub input_text : InputError → List ℕ
input_text NoMemory = codes "NoMemory"
input_text ReadFailed = codes "ReadFailed"
input_text TooLong = codes "TooLong"
input_text BadHex = codes "BadHex"
