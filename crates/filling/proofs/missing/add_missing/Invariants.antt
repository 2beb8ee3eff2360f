use Rattle.std.proofs.Common.{◌≡◌, ◌++◌, drop}
use Rattle.filling.specs.Spends.{missing_on}
use Rattle.filling.proofs.missing.add_missing.Given as goal

abbrev pub invariant-loop-above : goal.invariant-loop-above
invariant-loop-above l = l.missing.items ++ missing_on l.input l.digest (drop l.above l.slots) ≡ l.initial.missing.items ++ missing_on l.input l.digest l.slots
