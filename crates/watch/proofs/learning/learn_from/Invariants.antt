use Rattle.std.proofs.Common.{◌≡◌, ◌++◌, drop}
use Rattle.watch.specs.Learning.{learnt_from}
use Rattle.watch.proofs.learning.learn_from.Given as goal

-- what is left gives the whole
abbrev pub invariant-loop-index : goal.invariant-loop-index
invariant-loop-index l = l.learnt.items ++ learnt_from l.commitments (drop l.index l.tx.inputs) ≡ l.fn.learnt.items ++ learnt_from l.commitments l.tx.inputs
