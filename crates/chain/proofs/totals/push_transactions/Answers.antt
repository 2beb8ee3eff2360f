use Rattle.std.proofs.Common.{drop, ap, arith}
use Rattle.std.specs.List.{flat_map}
use Rattle.chain.specs.Blocks.{created_by}
use Rattle.chain.proofs.Finding.{drop-past}
use Rattle.chain.proofs.Sums.{transactions_on, nothing_left}
use Rattle.chain.proofs.totals.push_transactions.Goals as goal

pub loop-confirmed-preserved : goal.loop-confirmed-preserved
loop-confirmed-preserved g c =
    let blocks = (g.S.Store.standing c.args.store.now).blocks in
    λ height.
    transactions_on blocks height c.loop-confirmed.confirmed-index c.args.transactions.now c.confirmed-item.result c.loop-confirmed.values.items c.push_outputs.new.values.items _ c.confirmed-item.is (omega arith) (c.in_ok-push_outputs.ensures height) (c.loop-confirmed.invariant height)

pub returns : goal.returns
returns g c =
    let blocks = (g.S.Store.standing c.args.store.now).blocks in
    let ts = c.args.transactions.now in
    let i = c.loop-confirmed.confirmed-index in
    λ height.
    nothing_left blocks c.loop-confirmed.values.items _ (flat_map (created_by height) (drop i ts)) (ap (flat_map (created_by height)) (drop-past ts i (omega arith))) (c.loop-confirmed.invariant height)
