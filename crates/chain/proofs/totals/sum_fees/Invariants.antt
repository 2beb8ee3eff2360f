use Rattle.std.proofs.Common.{◌≡◌, take, reverse, sum, sum_by}
use Rattle.chain.specs.Blocks.{fee_of, transactions_of}
use Rattle.chain.proofs.totals.sum_fees.Given as goal

abbrev pub invariant-loop-block : goal.invariant-loop-block
invariant-loop-block g l =
    let blocks = (g.S.Store.standing l.store).blocks in
    sum l.fees.items ≡ sum_by (fee_of blocks) (transactions_of (reverse (take l.block-index l.block-items)))
