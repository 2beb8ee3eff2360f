-- What pushed bytes look like.
use Rattle.std.specs.Prelude.{ℕ, Bool, ◌||◌, ◌==◌, if◌then◌else◌, List, length, Option, Some, None}
use Rattle.script.specs.declared.num.Number.{Number}
use Rattle.script.specs.Number.{number_of}
use Rattle.script.specs.Token.{is_key}
use Rattle.trace.specs.declared.scripts.looks.Look.{Look}
use Rattle.trace.specs.declared.scripts.looks.Look.TheVariants.{Key, Hash, Number as AsNumber, Bytes}

abbrev pub number_look : Option Number → Look
number_look (Some n) = AsNumber n
number_look None = Bytes

-- a key, a hash, a number of at most 5 bytes, or something else: the first of these that fits
abbrev pub look_of : List ℕ → Look
look_of item = if is_key item then Key else if (length item == 20 || length item == 32) then Hash else number_look (number_of 5 item)
