use Rattle.std.proofs.Common.{◌≤◌}
use Rattle.trace.proofs.witnesses.words.tell_inputs.Given as goal

abbrev pub invariant-loop-index : goal.invariant-loop-index
invariant-loop-index g l = l.status ≤ 1
