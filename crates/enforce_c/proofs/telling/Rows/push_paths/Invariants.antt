-- What is left, put onto the rows so far, is the whole.
use Rattle.std.proofs.Common.{◌≡◌, drop}
use Rattle.enforce_c.specs.Rows.{with_paths}
use Rattle.enforce_c.proofs.telling.Rows.push_paths.Given as goal

abbrev pub invariant-loop-path : goal.invariant-loop-path
invariant-loop-path l = with_paths (drop l.path-index l.paths) l.self ≡ with_paths l.paths l.initial.self
