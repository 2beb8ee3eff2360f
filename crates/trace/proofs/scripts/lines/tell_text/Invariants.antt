use Rattle.std.proofs.Common.{◌≤◌}
use Rattle.trace.proofs.scripts.lines.tell_text.Given as goal

abbrev pub invariant-loop-line : goal.invariant-loop-line
invariant-loop-line g l = l.status ≤ 1
