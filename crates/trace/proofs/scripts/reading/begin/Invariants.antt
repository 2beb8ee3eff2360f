use Rattle.std.proofs.Common.{◌≤◌}
use Rattle.trace.proofs.scripts.reading.begin.Given as goal

abbrev pub invariant-loop-op : goal.invariant-loop-op
invariant-loop-op l = l.ifs ≤ l.op-index
