use Rattle.book.proofs.Remaining.{left_step, left_end}
use Rattle.book.proofs.again.without_spent.Goals as goal

pub loop-claim-preserved : goal.loop-claim-preserved
loop-claim-preserved c =
    let l = c.loop-claim in
    left_step c.args.spent.now c.args.claims.now l.claim-index c.claim-item.result l.left c.push_unless_spent.new.left _ c.loop-claim-test.true c.claim-item.is c.in_ok-push_unless_spent.ensures l.invariant

pub returns : goal.returns
returns c = left_end c.args.spent.now c.args.claims.now c.loop-claim.claim-index c.loop-claim.left _ c.loop-claim-test.false c.loop-claim.invariant
