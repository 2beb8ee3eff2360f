use Rattle.std.proofs.Common.{◌+◌, [], refl, ap, ◌∙◌, length}
use Rattle.std.specs.List.{cons_option}
use Rattle.commit.specs.Commitments.{htlc_at}
use Rattle.penalty.proofs.Collecting.{collects_none, collects_on, collects_all}
use Rattle.resolve.specs.Due.{peers_on}
use Rattle.resolve.proofs.Pushing.{peers_all}
use Rattle.resolve.proofs.due.peers_due.Goals as goal

pub loop-index-init : goal.loop-index-init
loop-index-init c = (
  0,
  collects_none (peers_on c.args.known.now c.args.theirs.now) c.args.theirs.now c.outputs-outputs.result.now _
      (c.outputs-outputs.ensures.value ∙ ap (λ k. k.outputs) c.commitment-commitment.ensures.value) c.new-claims.ensures.items,
)

pub loop-index-preserved : goal.loop-index-preserved
loop-index-preserved c = (
  c.loop-index.invariant.0 + length (cons_option (htlc_at c.loop-index.index c.index-outputs-index.result.kind) []),
  collects_on (peers_on c.args.known.now c.args.theirs.now) c.args.theirs.now c.loop-index.index c.outputs-outputs.result.now c.loop-index.invariant.0 _ c.loop-index.claims.items _
      c.index-outputs-index.result c.loop-index.invariant.1 c.loop-index-test.true c.index-outputs-index.is c.in_ok-push_peers.ensures refl,
)

pub returns : goal.returns
returns c =
    peers_all c.args.known.now c.args.theirs.now c.outputs-outputs.result.now c.loop-index.claims.items
    (c.outputs-outputs.ensures.value ∙ ap (λ k. k.outputs) c.commitment-commitment.ensures.value)
    (collects_all (peers_on c.args.known.now c.args.theirs.now) c.args.theirs.now c.loop-index.index c.outputs-outputs.result.now c.loop-index.invariant.0 c.loop-index.claims.items
    c.loop-index.invariant.1 c.loop-index-test.false)
