use Rattle.std.proofs.Common.{◌+◌, ap, ◌∙◌}
use Rattle.resolve.specs.Due.{owners_on}
use Rattle.penalty.proofs.Collecting.{is_kth, collects_on, collects_all}
use Rattle.resolve.proofs.Pushing.{owners_all}
use Rattle.resolve.proofs.due.owners_due.Goals as goal

pub push_owners-requires-clause-htlc : goal.push_owners-requires-clause-htlc
push_owners-requires-clause-htlc c h e =
    is_kth (owners_on c.args.known.now c.args.own.now.commitment) c.args.own.now.commitment c.loop-index.index c.outputs-outputs.result.now c.loop-index.htlcs c.loop-index.claims.items
    c.index-outputs-index.result h c.loop-index.invariant c.loop-index-test.true c.index-outputs-index.is e

pub loop-index-preserved : goal.loop-index-preserved
loop-index-preserved c =
    collects_on (owners_on c.args.known.now c.args.own.now.commitment) c.args.own.now.commitment c.loop-index.index c.outputs-outputs.result.now c.loop-index.htlcs _ c.loop-index.claims.items _
    c.index-outputs-index.result c.loop-index.invariant c.loop-index-test.true c.index-outputs-index.is c.in_ok-push_owners.ensures
    (ap (λ n. c.loop-index.htlcs + n) (c.htlc_count-htlcs.ensures.value c.loop-index.index))

pub returns : goal.returns
returns c =
    owners_all c.args.known.now c.args.own.now.commitment c.outputs-outputs.result.now c.loop-index.claims.items
    (c.outputs-outputs.ensures.value ∙ ap (λ k. k.outputs) c.commitment-commitment.ensures.value)
    (collects_all (owners_on c.args.known.now c.args.own.now.commitment) c.args.own.now.commitment c.loop-index.index c.outputs-outputs.result.now c.loop-index.htlcs c.loop-index.claims.items
    c.loop-index.invariant c.loop-index-test.false)
