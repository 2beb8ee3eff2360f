use Rattle.std.proofs.Common.{◌≡◌, ◌-◌, drop}
use Rattle.strictness.specs.Words.{words}
use Rattle.strictness.proofs.branches.drop_entries.Given as goal

abbrev pub invariant-loop-step : goal.invariant-loop-step
invariant-loop-step l = drop l.count (words l.fn.stack) ≡ drop (l.count - l._step) (words l.stack)
