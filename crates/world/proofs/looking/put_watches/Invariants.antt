use Rattle.std.proofs.Common.{◌≡◌, ◌+◌, ◌++◌, take, drop, length}
use Rattle.std.specs.Vec.Iter.{into_iter_items}
use Rattle.world.specs.Looking.{with_seen}
use Rattle.world.proofs.looking.put_watches.Given as goal

abbrev pub invariant-loop-watch : goal.invariant-loop-watch
invariant-loop-watch l = record {
  rest : take l.index l.lines ++ with_seen (into_iter_items l.watch-iterator) (drop l.index l.lines) ≡ with_seen l.fn.watches.items l.fn.lines;
  left : l.index + length (into_iter_items l.watch-iterator) ≡ length l.lines;
}
