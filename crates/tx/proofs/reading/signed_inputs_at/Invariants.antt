use Rattle.tx.proofs.Loop.{SignedSoFar}
use Rattle.tx.proofs.reading.signed_inputs_at.Given as goal

abbrev pub invariant-loop-input : goal.invariant-loop-input
invariant-loop-input l = SignedSoFar l.inputs l.unsigned l.input-index l.rest l.bytes
