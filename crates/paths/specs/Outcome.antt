-- What a call of `check` answers.
use Rattle.std.specs.Prelude.{◌≡◌, List, Result, Ok, Err}
use Rattle.script.specs.declared.opcode.Op.{Op}
use Rattle.paths.specs.declared.errors.CheckError.{CheckError}
use Rattle.paths.specs.declared.errors.CheckError.TheVariants.{NoMemory}
use Rattle.paths.specs.Listing.{CheckedScript, listing}

-- the refusal is that of the definition, unless memory ran out
abbrev pub IsRefusal : List Op → CheckError → Type 0
IsRefusal ops NoMemory = Unit {0}
IsRefusal ops e = listing ops ≡ Err e

-- the script with its paths, or the refusal
abbrev pub IsListing : List Op → Result CheckedScript CheckError → Type 0
IsListing ops (Ok c) = (c.ops ≡ ops) × (listing ops ≡ Ok c.paths)
IsListing ops (Err e) = IsRefusal ops e
