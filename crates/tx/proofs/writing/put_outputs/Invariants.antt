use Rattle.std.proofs.Common.{◌≡◌, ◌++◌, take}
use Rattle.std.specs.List.{flat_map}
use Rattle.tx.specs.Spelling.{output}
use Rattle.tx.proofs.writing.put_outputs.Given as goal

abbrev pub invariant-loop-o : goal.invariant-loop-o
invariant-loop-o l = l.out.items ≡ l.fn.out.items ++ flat_map output (take l.o-index l.outputs)
