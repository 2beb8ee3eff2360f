use Rattle.std.proofs.Common.{◌≡◌, ◌++◌, drop}
use Rattle.unilateral.specs.Reading.{others_from}
use Rattle.unilateral.proofs.reading.other_outputs.Given as goal

-- what is left gives the whole
abbrev pub invariant-loop-index : goal.invariant-loop-index
invariant-loop-index l = l.others.items ++ others_from l.close l.index (drop l.index l.outputs) ≡ others_from l.close 0 l.outputs
