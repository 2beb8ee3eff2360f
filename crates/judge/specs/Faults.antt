-- Why an output's program and a witness give no script to run (BIP 141).
use Rattle.std.specs.Prelude.{◌≡◌, ℕ, List, Some}
use Rattle.script.specs.Spelling.{IsFault}
use Rattle.sighash.specs.Programs.{Given, given_of}
use Rattle.chain.specs.Given.{IsProgramFault}
use Rattle.judge.specs.declared.verdicts.Fault.{Fault}
use Rattle.judge.specs.declared.verdicts.Fault.TheVariants.{Program, BadScript}
use Rattle.judge.specs.declared.verdicts.Verdict.{Verdict}
use Rattle.judge.specs.declared.verdicts.Verdict.TheVariants.{Refused, Stopped, Clean}

-- bytes are not a script, for this reason
abbrev pub IsBadScript : List ℕ → Fault → Type 0
IsBadScript bytes (BadScript error) = IsFault bytes error
IsBadScript bytes (Program fault) = ⊥

-- a program and a witness give no script; or they give one that is none
abbrev pub IsFaultOf : List ℕ → List (List ℕ) → Fault → Type 0
IsFaultOf program witness (Program fault) = IsProgramFault program witness fault
IsFaultOf program witness (BadScript error) = (g : Given) × (given_of program witness ≡ Some g) × IsFault g.script error

-- where no script is run, it is for such a fault
abbrev pub OnRefused : (Fault → Type 0) → Verdict → Type 0
OnRefused P (Refused fault) = P fault
OnRefused P (Stopped s) = Unit {0}
OnRefused P (Clean c) = Unit {0}
