use Rattle.tx.specs.Reading.{output_at}
use Rattle.tx.proofs.Loop.{SoFar}
use Rattle.tx.proofs.reading.some_outputs_at.Given as goal

abbrev pub invariant-loop : goal.invariant-loop
invariant-loop l = SoFar output_at l.outputs l.count l.counter l.rest l.bytes
