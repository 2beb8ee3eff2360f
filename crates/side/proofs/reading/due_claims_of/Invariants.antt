use Rattle.std.proofs.Common.{◌≡◌, ◌++◌}
use Rattle.std.specs.Vec.Iter.{into_iter_items}
use Rattle.side.specs.Due.{due_claims_of}
use Rattle.side.proofs.reading.due_claims_of.Given as goal

abbrev pub invariant-loop-claim : goal.invariant-loop-claim
invariant-loop-claim l = l.due.items ++ due_claims_of l.channel l.preimages (into_iter_items l.claim-iterator) ≡ due_claims_of l.channel l.preimages l.fn.claims.items
