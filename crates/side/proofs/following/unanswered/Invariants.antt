use Rattle.std.proofs.Common.{◌≡◌, ◌++◌, map}
use Rattle.std.specs.Vec.Iter.{into_iter_items}
use Rattle.side.specs.Following.{unanswered}
use Rattle.side.proofs.following.unanswered.Given as goal

abbrev pub invariant-loop-watch : goal.invariant-loop-watch
invariant-loop-watch l = l.channels.items ++ map unanswered (into_iter_items l.watch-iterator) ≡ map unanswered l.fn.watches.items
