use Rattle.std.proofs.Common.{sym, subst}
use Rattle.penalty.specs.Sets.{AreClaimsOn}
use Rattle.unilateral.specs.Reading.{claimed_from}
use Rattle.unilateral.proofs.Walks.{gathers_none, gathers_on, gathers_all}
use Rattle.unilateral.proofs.reading.claims_on_outputs.Goals as goal

pub loop-index-init : goal.loop-index-init
loop-index-init c = gathers_none c.args.close.now c.args.tx.now c.outputs-outputs.result.now _ c.new-claims.ensures.items

pub loop-index-preserved : goal.loop-index-preserved
loop-index-preserved c =
    gathers_on c.args.close.now c.args.tx.now c.loop-index.index c.outputs-outputs.result.now c.loop-index.claims.items _ c.index-outputs-index.result _ c.loop-index.invariant c.loop-index-test.true c.index-outputs-index.is c.txid-id.ensures
    c.in_ok-push_claims.ensures

pub returns : goal.returns
returns c =
    subst (λ os. AreClaimsOn (claimed_from c.args.close.now c.args.tx.now 0 os) c.from_vec.result) c.outputs-outputs.ensures.value
    (subst (λ cs. AreClaimsOn (claimed_from c.args.close.now c.args.tx.now 0 c.outputs-outputs.result.now) cs) (sym c.from_vec.ensures)
    (gathers_all c.args.close.now c.args.tx.now c.loop-index.index c.outputs-outputs.result.now c.loop-index.claims.items c.loop-index.invariant c.loop-index-test.false))
