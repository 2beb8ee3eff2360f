use Rattle.std.proofs.Common.{◌≡◌, ◌++◌, map}
use Rattle.std.specs.Vec.Iter.{into_iter_items}
use Rattle.side.specs.Following.{seen_in}
use Rattle.side.proofs.following.watches_of.Given as goal

abbrev pub invariant-loop-followed : goal.invariant-loop-followed
invariant-loop-followed l = l.watches.items ++ map seen_in (into_iter_items l.followed-iterator) ≡ map seen_in l.fn.channels.items
