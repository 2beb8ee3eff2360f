-- Results of `run`, by the definition of a run.
use Rattle.std.specs.Prelude.{◌≡◌, ℕ, Result, Ok, Err}
use Rattle.script.specs.Run.{Outcome, Clean, Stopped}
use Rattle.machine.specs.declared.ends.Run.{Run}
use Rattle.machine.specs.declared.ends.Stop.{Stop}
use Rattle.machine.specs.declared.ends.Stop.TheVariants.{NoMemory, At}

-- a result is that of an outcome, unless memory ran out
abbrev pub IsOutcome : Outcome → Result Run Stop → Type 0
IsOutcome o (Ok run) = o ≡ Clean run.counted run.height
IsOutcome o (Err NoMemory) = Unit {0}
IsOutcome o (Err (At cause at)) = o ≡ Stopped at cause
