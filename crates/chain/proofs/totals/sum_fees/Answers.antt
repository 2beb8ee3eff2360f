use Rattle.std.proofs.Common.{arith}
use Rattle.chain.specs.Blocks.{fee_of}
use Rattle.chain.proofs.Sums.{amounts_more, fees_total}
use Rattle.chain.proofs.totals.sum_fees.Goals as goal

pub loop-block-preserved : goal.loop-block-preserved
loop-block-preserved g c =
    let blocks = (g.S.Store.standing c.args.store.now).blocks in
    amounts_more (fee_of blocks) c.blocks-block-items.result.now c.loop-block.block-index c.block-item.result c.transactions.result.now c.loop-block.fees.items c.push_fees.new.fees.items c.block-item.is (omega arith) c.transactions.ensures c.in_ok-push_fees.ensures c.loop-block.invariant

pub returns : goal.returns
returns g c =
    let blocks = (g.S.Store.standing c.args.store.now).blocks in
    fees_total (fee_of blocks) blocks c.blocks-block-items.result.now c.loop-block.block-index c.loop-block.fees.items c.sum_of.result c.blocks-block-items.ensures.value (omega arith) c.loop-block.invariant (cc)
