use Rattle.std.proofs.Common.{◌≡◌, ◌≤◌, ◌&&◌, ◌==◌, length, drop}
use Rattle.strictness.specs.Words.{words}
use Rattle.strictness.specs.Exact.{depth_of, is_exact, are_exact_from}
use Rattle.strictness.proofs.branches.follow_from.Given as goal

-- what is left gives the whole
abbrev pub invariant-loop-index : goal.invariant-loop-index
invariant-loop-index l = record {
  within : depth_of l.mode ≤ l.index;
  exact :
      ((length l.fn.strict.items == 0) && (is_exact (drop l.at l.ops) l.fn.first (words l.fn.stack) && are_exact_from l.ops l.fn.waiting))
      ≡ ((length l.strict.items == 0) && (is_exact (drop l.index l.ops) l.mode (words l.stack) && are_exact_from l.ops l.waiting));
}
