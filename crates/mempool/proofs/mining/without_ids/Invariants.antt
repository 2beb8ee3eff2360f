use Rattle.std.proofs.Common.{◌≡◌, ◌++◌}
use Rattle.std.specs.Vec.Iter.{into_iter_items}
use Rattle.mempool.proofs.mining.without_ids.Given as goal

abbrev pub invariant-loop-confirmed : goal.invariant-loop-confirmed
invariant-loop-confirmed l = l.txs.items ++ into_iter_items l.confirmed-iterator ≡ l.fn.waiting.items
