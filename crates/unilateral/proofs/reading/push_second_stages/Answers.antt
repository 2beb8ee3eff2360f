use Rattle.std.proofs.Common.{subst}
use Rattle.claim.specs.declared.parts.Place.{Place}
use Rattle.penalty.specs.Sets.{IsClaimOn}
use Rattle.unilateral.specs.Claims.{second_stage_in}
use Rattle.unilateral.proofs.Walks.{stages_none, stages_on, stages_all}
use Rattle.unilateral.proofs.reading.push_second_stages.Goals as goal

pub loop-expiry-init : goal.loop-expiry-init
loop-expiry-init c done a = stages_none (second_stage_in c.args.commitment.now c.args.feerate_per_kw c.args.htlc.now c.args.place.now) c.args.expiries.now done _ a

pub loop-expiry-preserved : goal.loop-expiry-preserved
loop-expiry-preserved c done a =
    stages_on (second_stage_in c.args.commitment.now c.args.feerate_per_kw c.args.htlc.now c.args.place.now) c.loop-expiry.expiry-index c.args.expiries.now done c.loop-expiry.claims.items _ c.expiry-item.result c.in_ok-claim.claim
    (c.loop-expiry.invariant done a) c.loop-expiry-test.true c.expiry-item.is
    (subst (λ (p : Place). IsClaimOn (second_stage_in c.args.commitment.now c.args.feerate_per_kw c.args.htlc.now p c.expiry-item.result) c.in_ok-claim.claim) c.in_ok-at.ensures c.in_ok-claim.ensures)
    c.in_ok-push.ensures.items

pub returns : goal.returns
returns c done a =
    stages_all (second_stage_in c.args.commitment.now c.args.feerate_per_kw c.args.htlc.now c.args.place.now) c.loop-expiry.expiry-index c.args.expiries.now done c.loop-expiry.claims.items (c.loop-expiry.invariant done a) c.loop-expiry-test.false
