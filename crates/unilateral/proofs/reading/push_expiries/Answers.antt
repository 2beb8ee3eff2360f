use Rattle.unilateral.proofs.Walks.{expiries_on, expiries_all}
use Rattle.unilateral.proofs.reading.push_expiries.Goals as goal

pub loop-htlc-preserved : goal.loop-htlc-preserved
loop-htlc-preserved c =
    expiries_on c.args.hash.now c.loop-htlc.expiries.items _ _ c.loop-htlc.htlc-index c.args.htlcs.now c.htlc-item.result c.loop-htlc.invariant c.loop-htlc-test.true c.htlc-item.is c.in_ok-push_expiry.ensures

pub returns : goal.returns
returns c = expiries_all c.args.hash.now c.loop-htlc.expiries.items _ c.loop-htlc.htlc-index c.args.htlcs.now c.loop-htlc.invariant c.loop-htlc-test.false
