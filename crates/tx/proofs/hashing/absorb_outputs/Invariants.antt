use Rattle.std.proofs.Common.{take}
use Rattle.std.specs.List.{flat_map}
use Rattle.tx.specs.Hashing.{Absorbs}
use Rattle.tx.specs.Spelling.{output}
use Rattle.tx.proofs.hashing.absorb_outputs.Given as goal

abbrev pub invariant-loop-o : goal.invariant-loop-o
invariant-loop-o l = Absorbs l.fn.hasher l.hasher (flat_map output (take l.o-index l.outputs))
