-- The numbers of the refusals of a dump: 0 is out of memory.
use Rattle.std.specs.Prelude.{ℕ}
use Rattle.book_dump.specs.declared.errors.LoadError.{LoadError}
use Rattle.book_dump.specs.declared.errors.LoadError.TheVariants.{NoMemory, NotJson, BadShape, BadClaim, BadHistory}

abbrev pub load_error_number : LoadError → ℕ
load_error_number NoMemory = 0
load_error_number NotJson = 1
load_error_number BadShape = 2
load_error_number (BadClaim i) = 3
load_error_number (BadHistory i) = 4
