use Rattle.std.proofs.Common.{◌≡◌, ◌+◌, ◌≤◌, All, length}
use Rattle.std.specs.Vec.{vec_capacity}
use Rattle.std.specs.Vec.Iter.{into_iter_items}
use Rattle.running.specs.Threads.{IsSideThread}
use Rattle.running.proofs.side_threads.fn.run_beside.scope.Given as goal

abbrev pub invariant-loop-mine : goal.invariant-loop-mine
invariant-loop-mine g l = record {
  left : All (IsSideThread l.side l.shared.board) (into_iter_items l.mine-iterator);
  threads : All (λ t. t.promise.0.now ≡ l.side) l.threads.items;
  many : length l.threads.items + length (into_iter_items l.mine-iterator) ≡ l.many;
  room : l.many ≤ vec_capacity l.threads;
}
