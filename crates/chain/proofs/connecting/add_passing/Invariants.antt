use Rattle.std.proofs.Common.{◌≡◌, ◌++◌}
use Rattle.std.specs.Vec.Iter.{into_iter_items}
use Rattle.chain.specs.Connecting.{passing_added, refusals_of}
use Rattle.chain.specs.Storing.{ChangesNewest}
use Rattle.chain.proofs.connecting.add_passing.Given as goal

abbrev pub invariant-loop-tx : goal.invariant-loop-tx
invariant-loop-tx g l =
    let standing = g.S.Store.standing in
    record {
      newest : ChangesNewest (standing l.fn.store) (standing l.store);
      blocks : passing_added (standing l.store).blocks (into_iter_items l.tx-iterator) ≡ passing_added (standing l.fn.store).blocks l.fn.txs.items;
      given : l.refusals.items ++ refusals_of (standing l.store).blocks (into_iter_items l.tx-iterator) ≡ refusals_of (standing l.fn.store).blocks l.fn.txs.items;
    }
