-- The numbers of the refusals.
use Rattle.std.specs.Prelude.{ℕ}
use Rattle.paths.specs.declared.errors.CheckError.{CheckError}
use Rattle.paths.specs.declared.errors.CheckError.TheVariants.{NoMemory, OpenBranch, TooManyOps, Undecided, TooManyPaths, TooTall}

abbrev pub refusal_number : CheckError → ℕ
refusal_number NoMemory = 0
refusal_number OpenBranch = 1
refusal_number TooManyOps = 2
refusal_number (Undecided at) = 3
refusal_number TooManyPaths = 4
refusal_number TooTall = 5
