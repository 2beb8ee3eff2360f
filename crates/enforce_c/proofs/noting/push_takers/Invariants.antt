-- The notes so far, with those on the paths that are left, are the whole.
use Rattle.std.proofs.Common.{◌≡◌, ◌++◌, drop}
use Rattle.enforce_c.specs.Noted.{takers}
use Rattle.enforce_c.proofs.noting.push_takers.Given as goal

abbrev pub invariant-loop-index : goal.invariant-loop-index
invariant-loop-index l = l.notes.items ++ takers l.index (drop l.index l.paths) ≡ l.initial.notes.items ++ takers 0 l.paths
