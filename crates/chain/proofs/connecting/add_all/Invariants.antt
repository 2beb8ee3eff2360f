use Rattle.std.proofs.Common.{◌≡◌, ◌+◌, length}
use Rattle.std.specs.Vec.Iter.{into_iter_items}
use Rattle.chain.specs.Connecting.{added}
use Rattle.chain.specs.Storing.{ChangesNewest}
use Rattle.chain.proofs.connecting.add_all.Given as goal

abbrev pub invariant-loop-tx : goal.invariant-loop-tx
invariant-loop-tx g l =
    let standing = g.S.Store.standing in
    record {
      newest : ChangesNewest (standing l.fn.store) (standing l.store);
      rest : added l.index (standing l.store).blocks (into_iter_items l.tx-iterator) ≡ added 0 (standing l.fn.store).blocks l.fn.txs.items;
      index : l.index + length (into_iter_items l.tx-iterator) ≡ length l.fn.txs.items;
    }
