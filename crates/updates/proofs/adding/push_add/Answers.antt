use Rattle.std.proofs.Common.{◌∷◌, [], ap, arith, length, length-append}
use Rattle.updates.specs.declared.changes.Update.TheVariants.{Add}
use Rattle.updates.specs.Stages.{Stages}
use Rattle.updates.proofs.adding.push_add.Goals as goal

pub overflow_add-htlcs : goal.overflow_add-htlcs
overflow_add-htlcs c =
    let e = ap (λ (s : Stages). length s.known) c.in_ok-push.ensures.ok in
    let f = length-append c.args.list.now.known (Add c.args.htlc ∷ []) in
    let g = c.known-known.ensures.count in
    let r = c.requires in
    omega (arith, e, f, g, r)
