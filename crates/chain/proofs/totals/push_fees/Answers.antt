use Rattle.std.proofs.Common.{◌≡◌, ℕ, List, ◌++◌, length, map, take, ap, ◌∙◌, arith}
use Rattle.std.proofs.Math.Seq.{take-length}
use Rattle.tx.specs.Fields.{Transaction}
use Rattle.chain.specs.Blocks.{fee_of}
use Rattle.chain.proofs.Sums.{fees_on}
use Rattle.chain.proofs.totals.push_fees.Goals as goal

pub loop-confirmed-preserved : goal.loop-confirmed-preserved
loop-confirmed-preserved g c =
    let blocks = (g.S.Store.standing c.args.store.now).blocks in
    fees_on (fee_of blocks) c.args.transactions.now c.loop-confirmed.confirmed-index c.confirmed-item.result c.loop-confirmed.fees.items c.push.new.self.items c.args.fees.now.items _ c.confirmed-item.is (omega arith) (cc) c.in_ok-push.ensures.items c.loop-confirmed.invariant

pub returns : goal.returns
returns g c =
    let blocks = (g.S.Store.standing c.args.store.now).blocks in
    let ts = c.args.transactions.now in
    let all : c.loop-confirmed.confirmed-index ≡ length ts = omega arith in
    c.loop-confirmed.invariant ∙ ap (λ (xs : List Transaction). c.args.fees.now.items ++ map (fee_of blocks) xs) (ap (λ (k : ℕ). take k ts) all ∙ take-length ts)
