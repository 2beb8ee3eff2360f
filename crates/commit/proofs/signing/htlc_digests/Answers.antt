use Rattle.std.proofs.Common.{◌∙◌, ap, map}
use Rattle.commit.specs.Commitments.{htlcs_from}
use Rattle.commit.specs.Signing.{htlc_digest}
use Rattle.commit.proofs.Htlcs.{mapped_on, mapped_end}
use Rattle.commit.proofs.signing.htlc_digests.Goals as goal

pub loop-index-preserved : goal.loop-index-preserved
loop-index-preserved c = mapped_on (htlc_digest c.args.commitment.now) _ _ _ c.loop-index.index c.outputs-outputs.result.now c.index-outputs-index.result c.loop-index-test.true c.index-outputs-index.is c.loop-index.invariant c.in_ok-push_digest.ensures

pub returns : goal.returns
returns c =
    c.from_vec.ensures ∙ mapped_end (htlc_digest c.args.commitment.now) _ _ c.loop-index.index c.outputs-outputs.result.now c.loop-index-test.false c.loop-index.invariant
    ∙ ap (λ os. map (htlc_digest c.args.commitment.now) (htlcs_from 0 os)) c.outputs-outputs.ensures.value
