use Rattle.strictness.specs.Words.{words}
use Rattle.strictness.proofs.Steps.{ended}
use Rattle.strictness.proofs.branches.follow_from.Goals as goal

pub returns : goal.returns
returns c = ended _ _ _ _ c.args.ops.now c.loop-index.index c.loop-index.mode (words c.loop-index.stack) c.loop-index-test.false c.loop-index.invariant.exact c.has_refused_end.ensures
