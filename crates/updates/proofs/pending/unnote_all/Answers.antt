use Rattle.std.proofs.Common.{◌≡◌, ◌∙◌, ◌<◌, length, ap, arith}
use Rattle.updates.specs.Pending.{unnoted}
use Rattle.updates.proofs.Cutting.{mapped_front, mapped_more, mapped_end}
use Rattle.updates.proofs.pending.unnote_all.Goals as goal

pub loop-i-preserved : goal.loop-i-preserved
loop-i-preserved c =
    let l : c.loop-i.i < length c.args.htlcs.now = omega arith in
    rw c.before-in-loop-i.ensures (mapped_more (unnoted c.args.removed) c.args.htlcs.now c.loop-i.htlcs c.loop-i.i _ c.loop-i.invariant l)

pub returns : goal.returns
returns c =
    let e : c.loop-i.i ≡ length c.args.htlcs.now = omega arith in
    c.loop-i.invariant ∙ ap (λ k. mapped_front (unnoted c.args.removed) k c.args.htlcs.now) e ∙ mapped_end _ _
