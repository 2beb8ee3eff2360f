use Rattle.std.proofs.Common.{◌≡◌, ◌++◌, drop}
use Rattle.revoked.specs.Reading.{others_from}
use Rattle.revoked.proofs.reading.other_outputs.Given as goal

-- what is left gives the whole
abbrev pub invariant-loop-index : goal.invariant-loop-index
invariant-loop-index l = l.others.items ++ others_from l.revoked l.index (drop l.index l.outputs) ≡ others_from l.revoked 0 l.outputs
