use Rattle.std.proofs.Common.{◌≡◌, ◌++◌, drop, None}
use Rattle.warnings.specs.Locks.{turned_in}
use Rattle.warnings.proofs.locks.turned_locks.Given as goal

-- what is left adds the rest
abbrev pub invariant-loop-at : goal.invariant-loop-at
invariant-loop-at l = l.locks.items ++ turned_in l.at l.before (drop l.at l.ops) ≡ turned_in 0 None l.ops
