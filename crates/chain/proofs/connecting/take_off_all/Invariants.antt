use Rattle.std.proofs.Common.{◌≡◌, drop}
use Rattle.chain.proofs.connecting.take_off_all.Given as goal

abbrev pub invariant-loop-taken : goal.invariant-loop-taken
invariant-loop-taken g l =
    let standing = g.S.Store.standing in
    standing l.store ≡ record (standing l.fn.store) { blocks = drop l._taken (standing l.fn.store).blocks }
