use Rattle.std.proofs.Common.{◌≡◌, map, take}
use Rattle.paths.specs.Maps.{in_key}
use Rattle.paths.specs.Holes.{filling}
use Rattle.paths.proofs.filling.filled_keys.Given as goal

abbrev pub invariant-loop-key : goal.invariant-loop-key
invariant-loop-key l = l.filled.items ≡ map (in_key (filling l.ops)) (take l.key-index l.keys)
