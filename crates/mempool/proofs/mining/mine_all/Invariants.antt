use Rattle.std.proofs.Common.{◌≡◌, ◌+◌, ◌-◌, ◌≤◌, length}
use Rattle.chain.specs.Marking.{IsGrown}
use Rattle.mempool.specs.Mining.{blocks_after, mined_by}
use Rattle.mempool.proofs.mining.mine_all.Given as goal

abbrev pub invariant-loop-block : goal.invariant-loop-block
invariant-loop-block l = record {
  blocks : blocks_after (l.count - l._block) (record { chain = l.chain; waiting = l.left.items; txs = l.txs }) ≡ mined_by l.fn.count l.fn.chain l.fn.pool;
  grown : IsGrown l.fn.chain l.chain;
  few : l.txs + length l.left.items ≤ length l.fn.pool;
}
