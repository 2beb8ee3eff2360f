use Rattle.std.proofs.Common.{◌≡◌, ◌≤◌, ◌+◌, ◌*◌, ◌^◌}
use Rattle.trace.specs.Weights.{items_weight}
use Rattle.trace.proofs.scripts.weights.slots_weight.Given as goal

abbrev pub invariant-loop-slot : goal.invariant-loop-slot
invariant-loop-slot l = (l.total ≡ items_weight l.facts l.slot l.signature) × (l.total ≤ l.slot * (2 ^ 64 + 9))
