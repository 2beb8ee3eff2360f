use Rattle.std.proofs.Common.{◌+◌, subst, sym, ap, ◌∙◌}
use Rattle.penalty.specs.Claimable.{claims_on, claims_from}
use Rattle.penalty.specs.Sets.{AreClaimsOn}
use Rattle.penalty.proofs.Collecting.{collects_none, is_kth, collects_on, collects_all}
use Rattle.penalty.proofs.building.claims_of.Goals as goal

pub loop-index-init : goal.loop-index-init
loop-index-init c = collects_none (claims_on c.args.commitment.now) c.args.commitment.now c.outputs-outputs.result.now _ c.outputs-outputs.ensures.value c.new-claims.ensures.items

pub push_claims_on-requires-clause-htlc : goal.push_claims_on-requires-clause-htlc
push_claims_on-requires-clause-htlc c h e = is_kth (claims_on c.args.commitment.now) c.args.commitment.now c.loop-index.index c.outputs-outputs.result.now c.loop-index.htlcs c.loop-index.claims.items c.index-outputs-index.result h c.loop-index.invariant c.loop-index-test.true c.index-outputs-index.is e

pub loop-index-preserved : goal.loop-index-preserved
loop-index-preserved c =
    collects_on (claims_on c.args.commitment.now) c.args.commitment.now c.loop-index.index c.outputs-outputs.result.now c.loop-index.htlcs _ c.loop-index.claims.items _ c.index-outputs-index.result c.loop-index.invariant c.loop-index-test.true c.index-outputs-index.is
    c.in_ok-push_claims_on.ensures (ap (λ n. c.loop-index.htlcs + n) (c.htlc_count-htlcs.ensures.value c.loop-index.index))

pub returns : goal.returns
returns c =
    subst (λ os. AreClaimsOn (claims_from c.args.commitment.now 0 os) c.from_vec.result) c.outputs-outputs.ensures.value
    (subst (λ cs. AreClaimsOn (claims_from c.args.commitment.now 0 c.outputs-outputs.result.now) cs) (sym (c.from_vec.ensures ∙ c.shrink_to_fit.ensures.items))
    (collects_all (claims_on c.args.commitment.now) c.args.commitment.now c.loop-index.index c.outputs-outputs.result.now c.loop-index.htlcs c.loop-index.claims.items c.loop-index.invariant c.loop-index-test.false))
