use Rattle.std.specs.Vec.Iter.{into_iter_items}
use Rattle.book_dump.proofs.GoingOn.{GoesOn}
use Rattle.book_dump.proofs.replaying.book_of.Given as goal

abbrev pub invariant-loop-plain : goal.invariant-loop-plain
invariant-loop-plain l = GoesOn l.fn.history l.book (into_iter_items l.plain-iterator)
