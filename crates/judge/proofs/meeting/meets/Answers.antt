use Rattle.std.proofs.Common.{sym}
use Rattle.judge.specs.Meeting.{is_as_stated}
use Rattle.judge.proofs.Scans.{as_stated, passed}
use Rattle.judge.proofs.meeting.meets.Goals as goal

pub loop-stated-preserved : goal.loop-stated-preserved
loop-stated-preserved c =
    let is_so = is_as_stated c.args.spend.now c.args.items.now in
    passed is_so c.values-facts.result.now c.loop-stated.stated-index c.stated-item.result c.loop-stated-test.true c.stated-item.is _ (rw (sym c.in_ok-holds.ensures) (as_stated _ _ c.if-branch-stated.false)) c.loop-stated.invariant
