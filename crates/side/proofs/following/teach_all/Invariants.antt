use Rattle.std.proofs.Common.{◌≡◌, ◌++◌, map, take, drop}
use Rattle.side.specs.Following.{taught_in}
use Rattle.side.proofs.following.teach_all.Given as goal

abbrev pub invariant-loop-index : goal.invariant-loop-index
invariant-loop-index l = l.channels ≡ map (taught_in l.shown) (take l.index l.initial.channels) ++ drop l.index l.initial.channels
