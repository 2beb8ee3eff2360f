use Rattle.std.proofs.Common.{◌∙◌}
use Rattle.commit.proofs.Htlcs.{htlcs_on, htlcs_end}
use Rattle.commit.proofs.commitments.htlc_outputs.Goals as goal

pub loop-index-preserved : goal.loop-index-preserved
loop-index-preserved c = htlcs_on _ _ _ c.loop-index.index c.args.outputs.now c.index-outputs-index.result c.loop-index-test.true c.index-outputs-index.is c.loop-index.invariant c.in_ok-push_htlc.ensures

pub returns : goal.returns
returns c = c.from_vec.ensures ∙ htlcs_end _ _ c.loop-index.index c.args.outputs.now c.loop-index-test.false c.loop-index.invariant
