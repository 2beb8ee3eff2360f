use Rattle.script.proofs.Splits.{reads_more, cut_front}
use Rattle.script.proofs.parse.read.Goals as goal

pub loop-first-preserved : goal.loop-first-preserved
loop-first-preserved c =
    let before = rw c.in-Some.ensures.cases.0 at c.loop-first.invariant in
    rw (c.in_ok-push.ensures.items, cut_front c.in-Some.after.now _ _ c.payload_len.ensures) (reads_more _ _ _ _ _ before c.in_ok-op.ensures.ok)
