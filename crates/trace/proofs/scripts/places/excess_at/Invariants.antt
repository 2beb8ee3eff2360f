use Rattle.std.proofs.Common.{◌≤◌}
use Rattle.trace.proofs.scripts.places.excess_at.Given as goal

abbrev pub invariant-loop-at : goal.invariant-loop-at
invariant-loop-at l = l.counted ≤ 201
