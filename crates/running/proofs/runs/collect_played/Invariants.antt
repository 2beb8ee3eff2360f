use Rattle.std.proofs.Common.{◌≡◌, ◌++◌, map, Ok}
use Rattle.std.specs.Vec.Iter.{into_iter_items}
use Rattle.running.proofs.runs.collect_played.Given as goal

abbrev pub invariant-loop-one : goal.invariant-loop-one
invariant-loop-one l = map Ok l.channels.items ++ into_iter_items l.one-iterator ≡ l.fn.played.items
