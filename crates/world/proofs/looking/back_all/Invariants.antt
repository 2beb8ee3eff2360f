use Rattle.std.proofs.Common.{◌≡◌, ◌++◌, map, take, drop}
use Rattle.world.specs.Looking.{seen_back_to}
use Rattle.world.proofs.looking.back_all.Given as goal

abbrev pub invariant-loop-index : goal.invariant-loop-index
invariant-loop-index l = l.lines ≡ map (seen_back_to l.height) (take l.index l.initial.lines) ++ drop l.index l.initial.lines
