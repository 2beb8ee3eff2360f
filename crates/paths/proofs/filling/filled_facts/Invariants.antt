use Rattle.std.proofs.Common.{◌≡◌, map, take}
use Rattle.paths.specs.Maps.{in_stated}
use Rattle.paths.specs.Holes.{filling}
use Rattle.paths.proofs.filling.filled_facts.Given as goal

abbrev pub invariant-loop-stated : goal.invariant-loop-stated
invariant-loop-stated l = l.filled.items ≡ map (in_stated (filling l.ops)) (take l.stated-index l.facts)
