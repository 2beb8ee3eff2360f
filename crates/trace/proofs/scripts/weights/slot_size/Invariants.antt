use Rattle.std.proofs.Common.{◌≡◌, drop}
use Rattle.trace.specs.Weights.{size_in}
use Rattle.trace.proofs.scripts.weights.slot_size.Given as goal

abbrev pub invariant-loop-stated : goal.invariant-loop-stated
invariant-loop-stated l = size_in (drop l.stated-index l.facts) l.slot l.signature l.least ≡ size_in l.facts l.slot l.signature 0
