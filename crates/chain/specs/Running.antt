-- Results of a run, by its definition.
use Rattle.std.specs.Prelude.{◌≡◌, List, Option, Some, None, Result, Ok, Err}
use Rattle.script.specs.declared.opcode.Op.{Op}
use Rattle.script.specs.Run.{Outcome, Clean, Stopped}
use Rattle.machine.specs.declared.ends.Run.{Run}
use Rattle.chain.specs.declared.errors.ChainError.{ChainError}
use Rattle.chain.specs.declared.errors.ChainError.TheVariants.{NoMemory, Script, BadProgram}

-- the result is these opcodes, or BadProgram where there are none, unless memory ran out
abbrev pub IsParsed : Option (List Op) → Result (List Op) ChainError → Type 0
IsParsed ops (Ok script) = ops ≡ Some script
IsParsed ops (Err NoMemory) = Unit {0}
IsParsed ops (Err BadProgram) = ops ≡ None
IsParsed ops (Err e) = ⊥

-- the result is that of this outcome, or BadProgram where there is none, unless memory ran out
abbrev pub IsRun : Option Outcome → Result Run ChainError → Type 0
IsRun outcome (Ok run) = outcome ≡ Some (Clean run.counted run.height)
IsRun outcome (Err NoMemory) = Unit {0}
IsRun outcome (Err (Script cause at)) = outcome ≡ Some (Stopped at cause)
IsRun outcome (Err BadProgram) = outcome ≡ None
IsRun outcome (Err e) = ⊥
