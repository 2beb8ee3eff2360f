use Rattle.std.proofs.Common.{sym, ◌∙◌}
use Rattle.machine.proofs.Reversing.{one_more}
use Rattle.machine.proofs.multisig.take_many.Goals as goal

pub loop-entry-preserved : goal.loop-entry-preserved
loop-entry-preserved c =
    rw (c.in_ok-push.ensures.pushed, c.loop-entry.invariant.1) (one_more c.args.stack.now c.loop-entry._entry c.in_ok-take.field-0 c.take.new.stack (sym c.loop-entry.invariant.2 ∙ c.in_ok-take.ensures))
