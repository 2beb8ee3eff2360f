use Rattle.std.proofs.Common.{arith}
use Rattle.mempool.proofs.Blocks.{fewer_refused, next_of}
use Rattle.mempool.proofs.mining.mine_one.Goals as goal

pub overflow_sub-txs : goal.overflow_sub-txs
overflow_sub-txs c = let fewer = fewer_refused _ _ _ _ c.in_ok-refused.ensures.ok in omega (arith, fewer)

pub returns-clause-ok : goal.returns-clause-ok
returns-clause-ok c =
    let fewer = fewer_refused _ _ _ _ c.in_ok-refused.ensures.ok in
    next_of c.args.chain.now c.connect_waiting.new.self c.args.waiting.items c.in_ok-waiting.waiting.items c.in_ok-refused.refused.items _ c.in_ok-refused.ensures.ok c.in_ok-waiting.ensures
    (omega (arith, fewer))
