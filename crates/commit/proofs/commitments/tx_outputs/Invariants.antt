use Rattle.std.proofs.Common.{◌≡◌, ◌++◌, map, drop}
use Rattle.commit.specs.Commitments.{tx_output}
use Rattle.commit.proofs.commitments.tx_outputs.Given as goal

-- what is left gives the whole
abbrev pub invariant-loop-output : goal.invariant-loop-output
invariant-loop-output l = l.items.items ++ map tx_output (drop l.output-index l.outputs) ≡ map tx_output l.outputs
