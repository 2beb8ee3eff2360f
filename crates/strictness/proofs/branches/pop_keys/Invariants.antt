use Rattle.std.proofs.Common.{◌≡◌, ◌-◌, ◌||◌, take, drop}
use Rattle.std.specs.Prelude.{is_some}
use Rattle.std.specs.List.{list_any}
use Rattle.strictness.specs.Words.{words}
use Rattle.strictness.specs.Turns.{is_no_key}
use Rattle.strictness.proofs.branches.pop_keys.Given as goal

abbrev pub invariant-loop-step : goal.invariant-loop-step
invariant-loop-step l = record {
  bad : list_any is_no_key (take l.count (words l.fn.stack)) ≡ (is_some l.first || list_any is_no_key (take (l.count - l._step) (words l.stack)));
  rest : drop l.count (words l.fn.stack) ≡ drop (l.count - l._step) (words l.stack);
}
