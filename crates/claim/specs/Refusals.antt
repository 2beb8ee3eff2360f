-- The numbers of the refusals.
use Rattle.std.specs.Prelude.{ℕ}
use Rattle.claim.specs.declared.errors.AcceptError.{AcceptError}
use Rattle.claim.specs.declared.errors.AcceptError.TheVariants.{NoMemory, NoSuchPath, WrongArity, Unmet, Contradiction, WrongProgram, WrongShell}

abbrev pub refusal_number : AcceptError → ℕ
refusal_number NoMemory = 0
refusal_number NoSuchPath = 1
refusal_number WrongArity = 2
refusal_number (Unmet stated) = 3
refusal_number Contradiction = 4
refusal_number WrongProgram = 5
refusal_number WrongShell = 6
