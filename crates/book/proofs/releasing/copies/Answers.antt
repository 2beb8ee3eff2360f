use Rattle.book.proofs.Recorded.{copied}
use Rattle.book.proofs.releasing.copies.Goals as goal

pub loop-output-preserved : goal.loop-output-preserved
loop-output-preserved c =
    let l = c.loop-output in
    copied l.copies.items c.push.new.self.items c.in_ok-copy.field-0 c.output-item.result c.args.outputs.now l.output-index c.in_ok-push.ensures.items l.invariant c.loop-output-test.true c.in_ok-copy.ensures c.output-item.is
