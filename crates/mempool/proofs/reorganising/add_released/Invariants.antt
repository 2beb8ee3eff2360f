use Rattle.std.proofs.Common.{◌≡◌, ◌++◌, take}
use Rattle.std.specs.Prelude.{not, filter}
use Rattle.mempool.specs.Mining.{is_on}
use Rattle.mempool.proofs.reorganising.add_released.Given as goal

abbrev pub invariant-loop-tx : goal.invariant-loop-tx
invariant-loop-tx l = l.pool.items ≡ l.fn.pool.items ++ filter (λ t. not (is_on l.chain.blocks l.fn.pool.items t)) (take l.tx-index l.released)
