use Rattle.std.proofs.Common.{◌≡◌, ◌+◌, ◌≤◌, All, length}
use Rattle.std.specs.Vec.{vec_capacity}
use Rattle.std.specs.Vec.Iter.{into_iter_items}
use Rattle.running.specs.Threads.{HasServed}
use Rattle.running.proofs.side_threads.join_all.Given as goal

abbrev pub invariant-loop-thread : goal.invariant-loop-thread
invariant-loop-thread g l = record {
  threads : All (λ t. t.promise.0.now ≡ l.side) (into_iter_items l.thread-iterator);
  each : All (HasServed l.side) l.served.items;
  many : length l.served.items + length (into_iter_items l.thread-iterator) ≡ length l.fn.threads.items;
  room : length l.fn.threads.items ≤ vec_capacity l.served;
}
