use Rattle.tx.specs.Reading.{byte_string_at}
use Rattle.tx.proofs.Loop.{SoFar}
use Rattle.tx.proofs.reading.some_items_at.Given as goal

abbrev pub invariant-loop : goal.invariant-loop
invariant-loop l = SoFar byte_string_at l.items l.count l.counter l.rest l.bytes
