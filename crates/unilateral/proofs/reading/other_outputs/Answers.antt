use Rattle.std.proofs.Common.{ap, ◌∙◌}
use Rattle.unilateral.specs.Reading.{others_from}
use Rattle.unilateral.proofs.Walks.{others_on, others_all}
use Rattle.unilateral.proofs.reading.other_outputs.Goals as goal

pub loop-index-preserved : goal.loop-index-preserved
loop-index-preserved c =
    others_on c.args.close.now c.loop-index.index c.outputs-outputs.result.now c.loop-index.others.items _ c.index-outputs-index.result c.loop-index.invariant c.loop-index-test.true c.index-outputs-index.is
    c.in_ok-push_other.ensures

pub returns : goal.returns
returns c =
    c.from_vec.ensures
    ∙ others_all c.args.close.now c.loop-index.index c.outputs-outputs.result.now c.loop-index.others.items c.loop-index.invariant c.loop-index-test.false
    ∙ ap (others_from c.args.close.now 0) c.outputs-outputs.ensures.value
