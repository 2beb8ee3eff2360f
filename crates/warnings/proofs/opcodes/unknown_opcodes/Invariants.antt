use Rattle.std.proofs.Common.{◌≡◌, ◌++◌, drop}
use Rattle.warnings.specs.Opcodes.{unknown_in}
use Rattle.warnings.proofs.opcodes.unknown_opcodes.Given as goal

-- what is left adds the rest
abbrev pub invariant-loop-at : goal.invariant-loop-at
invariant-loop-at l = l.places.items ++ unknown_in l.skip l.at (drop l.at l.bytes) ≡ unknown_in 0 0 l.bytes
