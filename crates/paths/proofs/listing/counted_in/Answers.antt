use Rattle.script.proofs.Counting.{counted_in-more}
use Rattle.paths.proofs.listing.counted_in.Goals as goal

pub loop-op-preserved : goal.loop-op-preserved
loop-op-preserved c = rw c.op_count-counted.ensures.value (counted_in-more _ c.loop-op.op-index c.loop-op.counted c.op-item.result c.loop-op-test.true c.op-item.is c.loop-op.invariant)
