use Rattle.std.proofs.Common.{length}
use Rattle.script.proofs.Splits.{Reads}
use Rattle.script.proofs.parse.read.Given as goal

abbrev pub invariant-loop-first : goal.invariant-loop-first
invariant-loop-first l = Reads l.ops.items l.rest l.bytes

abbrev pub decreases-loop-first : goal.decreases-loop-first
decreases-loop-first l = length l.rest
