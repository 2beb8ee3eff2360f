use Rattle.std.proofs.Common.{◌≡◌, ◌-◌, ◌++◌}
use Rattle.script.specs.Number.{digits}
use Rattle.script.proofs.num.write.Given as goal

abbrev pub invariant-loop-step : goal.invariant-loop-step
invariant-loop-step l = l.bytes.items ++ digits (9 - l._step) l.rest ≡ digits 9 l.n
