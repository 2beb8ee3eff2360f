use Rattle.strictness.specs.Words.{words}
use Rattle.strictness.proofs.Steps.{dropped_more}
use Rattle.strictness.proofs.branches.drop_entries.Goals as goal

pub loop-step-preserved : goal.loop-step-preserved
loop-step-preserved c = dropped_more _ (words c.loop-step.stack) (words c.pop-entry.new.stack) c.args.count c.loop-step._step c.loop-step-test.true c.loop-step.invariant c.pop-entry.ensures.rest
