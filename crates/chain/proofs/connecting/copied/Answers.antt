use Rattle.std.proofs.Common.{arith}
use Rattle.chain.proofs.Growing.{copied_next}
use Rattle.chain.proofs.connecting.copied.Goals as goal

pub loop-block-preserved : goal.loop-block-preserved
loop-block-preserved c =
    copied_next c.args.blocks.now c.loop-block.block-index c.block-item.result c.loop-block.txs.items c.copy_onto.new.txs.items c.transactions.result.now c.block-item.is (omega arith) c.loop-block.invariant c.transactions.ensures c.in_ok-copy_onto.ensures
