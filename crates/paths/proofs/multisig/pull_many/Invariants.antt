use Rattle.std.proofs.Common.{◌≡◌, reverse}
use Rattle.paths.specs.HoleRules.{pops}
use Rattle.paths.specs.Doing.{IsNear}
use Rattle.paths.proofs.multisig.pull_many.Given as goal

abbrev pub invariant-loop-step : goal.invariant-loop-step
invariant-loop-step l = record {
  taken : l.syms ≡ reverse (pops l._step l.fn.state).0;
  left : l.state ≡ (pops l._step l.fn.state).1;
  near : IsNear l._step l.fn.state l.state;
}
