-- The numbers of the refusals: of bytes that are not a script, and of a run that stops.
use Rattle.std.specs.Prelude.{ℕ}
use Rattle.script.specs.declared.parse.ParseError.{ParseError}
use Rattle.script.specs.declared.parse.ParseError.TheVariants.{NoMemory, BadOpcode, Truncated, TooLong}
use Rattle.script.specs.declared.stops.Cause.{Cause}
use Rattle.script.specs.declared.stops.Cause.TheVariants.{MissingOperand, FailedCheck, OpenBranch, TooManyOps, StackTooTall, ItemTooLong, NotOneValue, FalseEnd}

abbrev pub refusal_number : ParseError → ℕ
refusal_number NoMemory = 0
refusal_number (BadOpcode at) = 1
refusal_number (Truncated at) = 2
refusal_number TooLong = 3

abbrev pub stop_number : Cause → ℕ
stop_number MissingOperand = 1
stop_number (FailedCheck kind) = 2
stop_number OpenBranch = 3
stop_number TooManyOps = 4
stop_number StackTooTall = 5
stop_number ItemTooLong = 6
stop_number NotOneValue = 7
stop_number FalseEnd = 8
