use Rattle.std.proofs.Common.{◌≡◌, take}
use Rattle.mempool.proofs.mining.with_ids.Given as goal

abbrev pub invariant-loop-tx : goal.invariant-loop-tx
invariant-loop-tx l = l.copies.items ≡ take l.tx-index l.txs
