use Rattle.std.proofs.Common.{◌≡◌, ◌++◌, drop, None}
use Rattle.warnings.specs.Locks.{warnings_in}
use Rattle.warnings.proofs.locks.lock_warnings.Given as goal

-- what is left adds the rest
abbrev pub invariant-loop-at : goal.invariant-loop-at
invariant-loop-at l = l.warnings.items ++ warnings_in l.at l.before (drop l.at l.ops) ≡ warnings_in 0 None l.ops
