use Rattle.std.proofs.Common.{◌≡◌, ◌++◌, drop}
use Rattle.watch.specs.Learning.{learnt_in}
use Rattle.watch.proofs.learning.learnt_in.Given as goal

-- what is left gives the whole
abbrev pub invariant-loop-confirmed : goal.invariant-loop-confirmed
invariant-loop-confirmed l = l.learnt.items ++ learnt_in l.commitments (drop l.confirmed-index l.txs) ≡ learnt_in l.commitments l.txs
