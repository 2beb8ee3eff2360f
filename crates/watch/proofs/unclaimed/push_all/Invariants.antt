use Rattle.std.proofs.Common.{◌≡◌, ◌++◌}
use Rattle.std.specs.Vec.Iter.{into_iter_items}
use Rattle.watch.proofs.unclaimed.push_all.Given as goal

abbrev pub invariant-loop-claim : goal.invariant-loop-claim
invariant-loop-claim l = l.to.items ++ into_iter_items l.claim-iterator ≡ l.fn.to.items ++ l.fn.from.items
