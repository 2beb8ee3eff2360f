use Rattle.std.proofs.Common.{◌≡◌, ◌++◌, drop}
use Rattle.watch.specs.Learning.{htlcs_by}
use Rattle.watch.proofs.learning.htlcs_by.Given as goal

-- what is left gives the whole
abbrev pub invariant-loop-spend : goal.invariant-loop-spend
invariant-loop-spend l = l.commitments.items ++ htlcs_by l.known (drop l.spend-index l.spends) ≡ htlcs_by l.known l.spends
