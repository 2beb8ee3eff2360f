use Rattle.std.proofs.Common.{◌≡◌, ◌++◌, take}
use Rattle.tx.specs.Spelling.{witnesses}
use Rattle.tx.proofs.writing.put_witnesses.Given as goal

abbrev pub invariant-loop-i : goal.invariant-loop-i
invariant-loop-i l = l.out.items ≡ l.fn.out.items ++ witnesses (take l.i-index l.inputs)
