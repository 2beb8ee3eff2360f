use Rattle.std.proofs.Common.{◌≡◌, ◌++◌, drop}
use Rattle.commit.specs.Commitments.{htlcs_from}
use Rattle.commit.proofs.commitments.htlc_outputs.Given as goal

-- what is left gives the whole
abbrev pub invariant-loop-index : goal.invariant-loop-index
invariant-loop-index l = l.htlcs.items ++ htlcs_from l.index (drop l.index l.outputs) ≡ htlcs_from 0 l.outputs
