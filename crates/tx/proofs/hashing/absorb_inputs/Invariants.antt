use Rattle.std.proofs.Common.{take}
use Rattle.std.specs.List.{flat_map}
use Rattle.tx.specs.Hashing.{Absorbs}
use Rattle.tx.specs.Spelling.{input}
use Rattle.tx.proofs.hashing.absorb_inputs.Given as goal

abbrev pub invariant-loop-i : goal.invariant-loop-i
invariant-loop-i l = Absorbs l.fn.hasher l.hasher (flat_map input (take l.i-index l.inputs))
