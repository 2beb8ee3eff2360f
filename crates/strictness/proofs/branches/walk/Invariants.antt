use Rattle.std.proofs.Common.{◌≡◌, ◌&&◌, ◌==◌, length}
use Rattle.strictness.specs.Exact.{are_exact_from, ends_as_in_consensus}
use Rattle.strictness.proofs.branches.walk.Given as goal

-- what is left gives the whole
abbrev pub invariant-loop-turn : goal.invariant-loop-turn
invariant-loop-turn l = ends_as_in_consensus l.ops ≡ ((length l.strict.items == 0) && (l.is_refused && are_exact_from l.ops l.waiting))
