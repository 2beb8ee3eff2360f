use Rattle.std.proofs.Common.{arith}
use Rattle.chain.proofs.Growing.{none_granted_left}
use Rattle.chain.proofs.connecting.take_off_all.Goals as goal

pub take_off-requires-clause-no_grant : goal.take_off-requires-clause-no_grant
take_off-requires-clause-no_grant g c =
    none_granted_left (g.S.Store.standing c.args.store.now) (g.S.Store.standing c.loop-taken.store) c.args.k c.loop-taken._taken c.requires.above_first c.requires.no_grant (omega arith) c.loop-taken.invariant
