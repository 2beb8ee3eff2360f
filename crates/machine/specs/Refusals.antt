-- The numbers of the refusals of a run.
use Rattle.std.specs.Prelude.{ℕ}
use Rattle.script.specs.Refusals.{stop_number}
use Rattle.machine.specs.declared.ends.Stop.{Stop}
use Rattle.machine.specs.declared.ends.Stop.TheVariants.{NoMemory, At}

abbrev pub refusal_number : Stop → ℕ
refusal_number NoMemory = 0
refusal_number (At cause at) = stop_number cause
