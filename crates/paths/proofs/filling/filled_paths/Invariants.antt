use Rattle.std.proofs.Common.{◌≡◌, map, take}
use Rattle.paths.specs.Filling.{filled_path}
use Rattle.paths.proofs.filling.filled_paths.Given as goal

abbrev pub invariant-loop-path : goal.invariant-loop-path
invariant-loop-path l = l.filled ≡ map (filled_path l.ops) (take l.path-index l.paths)
