-- The numbers of what a witness gives to be run.
use Rattle.std.proofs.Common.{◌≡◌, [], ◌∷◌, map, refl}
use Rattle.script.specs.declared.parse.ParseError.TheVariants.{BadOpcode}
use Rattle.chain.specs.declared.given.ProgramFault.TheVariants.{OtherProgram, NotTwoItems, NoScript, OtherScript}
use Rattle.judge.specs.declared.verdicts.Fault.TheVariants.{Program, BadScript}
use Rattle.judge.specs.Refusals.{fault_number}

faults : map fault_number (Program OtherProgram ∷ Program NotTwoItems ∷ Program NoScript ∷ Program OtherScript ∷ BadScript (BadOpcode 9) ∷ []) ≡ 1 ∷ 2 ∷ 3 ∷ 4 ∷ 5 ∷ []
faults = refl
