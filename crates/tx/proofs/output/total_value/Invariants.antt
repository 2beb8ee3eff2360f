use Rattle.std.proofs.Common.{◌≡◌, ◌*◌, ◌≤◌, take}
use Rattle.tx.specs.declared.limits.TheConstants.{MAX_VALUE}
use Rattle.tx.specs.Fields.{total_value}
use Rattle.tx.proofs.output.total_value.Given as goal

abbrev pub invariant-loop-output : goal.invariant-loop-output
invariant-loop-output l = (l.total ≡ total_value (take l.output-index l.outputs)) × (l.total ≤ MAX_VALUE * l.output-index)
