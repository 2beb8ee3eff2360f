use Rattle.std.proofs.Common.{◌≡◌, ◌++◌}
use Rattle.std.specs.Vec.Iter.{into_iter_items}
use Rattle.chain.specs.Connecting.{passing_added}
use Rattle.chain.specs.Storing.{ChangesNewest}
use Rattle.chain.specs.Waiting.{refused_of}
use Rattle.chain.proofs.connecting.add_waiting.Given as goal

abbrev pub invariant-loop-confirmed : goal.invariant-loop-confirmed
invariant-loop-confirmed g l =
    let standing = g.S.Store.standing in
    record {
      newest : ChangesNewest (standing l.fn.store) (standing l.store);
      blocks : passing_added (standing l.store).blocks (into_iter_items l.confirmed-iterator) ≡ passing_added (standing l.fn.store).blocks l.fn.txs.items;
      given : l.refused.items ++ refused_of (standing l.store).blocks (into_iter_items l.confirmed-iterator) ≡ refused_of (standing l.fn.store).blocks l.fn.txs.items;
    }
