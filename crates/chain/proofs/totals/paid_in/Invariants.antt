use Rattle.std.proofs.Common.{◌≡◌, ◌+◌, ◌*◌, ◌≤◌, drop}
use Rattle.chain.specs.Blocks.{paid_in}
use Rattle.chain.proofs.totals.paid_in.Given as goal

abbrev pub invariant-loop-input : goal.invariant-loop-input
invariant-loop-input g l =
    let blocks = (g.S.Store.standing l.store).blocks in
    (l.paid + paid_in blocks (drop l.input-index l.inputs) ≡ paid_in blocks l.inputs) × (l.paid ≤ l.input-index * 2100000000000000)
