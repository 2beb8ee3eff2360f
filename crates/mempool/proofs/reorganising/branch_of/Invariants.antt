use Rattle.std.proofs.Common.{◌≡◌, ◌++◌, take}
use Rattle.mempool.proofs.reorganising.branch_of.Given as goal

abbrev pub invariant-loop-tx : goal.invariant-loop-tx
invariant-loop-tx l = l.waiting.items ≡ l.initial.waiting.items ++ take l.tx-index l.pool
