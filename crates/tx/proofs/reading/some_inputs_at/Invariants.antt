use Rattle.tx.specs.Reading.{input_at}
use Rattle.tx.proofs.Loop.{SoFar}
use Rattle.tx.proofs.reading.some_inputs_at.Given as goal

abbrev pub invariant-loop : goal.invariant-loop
invariant-loop l = SoFar input_at l.inputs.items l.count l.counter l.rest l.bytes
