-- Where a halt stops a run.
use Rattle.std.specs.Prelude.{◌≡◌, ℕ}
use Rattle.machine.specs.declared.halts.Halt.{Halt}
use Rattle.machine.specs.declared.halts.Halt.TheVariants.{NoMemory as OutOfMemory, Stop as Halts}
use Rattle.machine.specs.declared.ends.Stop.{Stop}
use Rattle.machine.specs.declared.ends.Stop.TheVariants.{NoMemory, At}

-- a stop for a halt, at this position
abbrev pub IsStopAt : ℕ → Halt → Stop → Type 0
IsStopAt at OutOfMemory stop = stop ≡ NoMemory
IsStopAt at (Halts cause) stop = stop ≡ At cause at
