use Rattle.std.proofs.Common.{◌≡◌, ◌++◌}
use Rattle.std.specs.Vec.Iter.{into_iter_items}
use Rattle.mempool.specs.Mining.{waiting_among}
use Rattle.mempool.proofs.mining.waiting_of.Given as goal

abbrev pub invariant-loop-back : goal.invariant-loop-back
invariant-loop-back l = l.left.items ++ waiting_among (into_iter_items l.back-iterator) ≡ waiting_among l.fn.refused.items
