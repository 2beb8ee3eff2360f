use Rattle.std.proofs.Common.{◌≡◌, ◌∙◌, ◌<◌, length, ap, arith}
use Rattle.updates.proofs.Keeping.{noted_front, notes_more, notes_end}
use Rattle.updates.proofs.pending.note_all.Goals as goal

pub loop-i-preserved : goal.loop-i-preserved
loop-i-preserved c =
    let l : c.loop-i.i < length c.args.htlcs.now = omega arith in
    rw (c.after.ensures, c.by-fate.ensures) (notes_more c.args.position c.args.update.now c.args.htlcs.now c.loop-i.htlcs c.loop-i.i _ c.loop-i.invariant l)

pub returns : goal.returns
returns c =
    let e : c.loop-i.i ≡ length c.args.htlcs.now = omega arith in
    c.loop-i.invariant ∙ ap (λ k. noted_front c.args.position c.args.update.now k c.args.htlcs.now) e ∙ notes_end _ _ _
