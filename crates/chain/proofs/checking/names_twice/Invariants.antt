use Rattle.std.proofs.Common.{◌≡◌, drop}
use Rattle.chain.specs.Checks.{names_twice}
use Rattle.chain.proofs.checking.names_twice.Given as goal

abbrev pub invariant-loop-i : goal.invariant-loop-i
invariant-loop-i l = names_twice (drop l.i l.inputs) ≡ names_twice l.inputs
