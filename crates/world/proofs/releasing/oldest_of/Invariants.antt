use Rattle.std.proofs.Common.{◌≡◌, map, take}
use Rattle.world.proofs.releasing.oldest_of.Given as goal

abbrev pub invariant-loop-index : goal.invariant-loop-index
invariant-loop-index l = map (λ j. j.now) l.jobs.items ≡ take l.index l.taken.items
