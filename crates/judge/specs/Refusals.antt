-- The numbers of the faults.
use Rattle.std.specs.Prelude.{ℕ}
use Rattle.chain.specs.declared.given.ProgramFault.TheVariants.{OtherProgram, NotTwoItems, NoScript, OtherScript}
use Rattle.judge.specs.declared.verdicts.Fault.{Fault}
use Rattle.judge.specs.declared.verdicts.Fault.TheVariants.{Program, BadScript}

-- why no script runs
abbrev pub fault_number : Fault → ℕ
fault_number (Program OtherProgram) = 1
fault_number (Program NotTwoItems) = 2
fault_number (Program NoScript) = 3
fault_number (Program OtherScript) = 4
fault_number (BadScript error) = 5
