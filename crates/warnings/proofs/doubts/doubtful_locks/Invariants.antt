use Rattle.std.proofs.Common.{◌≡◌, ◌++◌, drop, None}
use Rattle.warnings.specs.Doubts.{doubts_in}
use Rattle.warnings.proofs.doubts.doubtful_locks.Given as goal

-- what is left adds the rest
abbrev pub invariant-loop-at : goal.invariant-loop-at
invariant-loop-at l = l.locks.items ++ doubts_in l.at l.before (drop l.at l.ops) ≡ doubts_in 0 None l.ops
