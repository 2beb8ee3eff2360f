use Rattle.std.proofs.Common.{◌≤◌}
use Rattle.trace.proofs.witnesses.lines.tell_lines.Given as goal

abbrev pub invariant-loop : goal.invariant-loop
invariant-loop g l = l.status ≤ 1
