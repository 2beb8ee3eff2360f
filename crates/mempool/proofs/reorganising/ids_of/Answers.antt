use Rattle.std.proofs.Common.{arith}
use Rattle.std.specs.Ordering.{nat_cmp}
use Rattle.std.specs.Cmp.Lexicographic.{slice_cmp}
use Rattle.std.specs.BTreeSet.{contains}
use Rattle.mempool.proofs.Blocks.{one_more_waits}
use Rattle.mempool.proofs.reorganising.ids_of.Goals as goal

pub loop-tx-preserved : goal.loop-tx-preserved
loop-tx-preserved c =
    one_more_waits (contains (slice_cmp nat_cmp) c.loop-tx.ids) (contains (slice_cmp nat_cmp) c.insert.new.self) c.args.txs.now c.loop-tx.tx-index _ c.tx-item.result c.txid.result (omega arith) c.tx-item.is
    c.txid.ensures c.in_ok-_is_new.ensures.updates.0 c.loop-tx.invariant
