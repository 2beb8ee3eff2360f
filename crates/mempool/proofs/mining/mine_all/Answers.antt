use Rattle.std.proofs.Common.{◌≡◌, ◌+◌, ◌-◌, suc, List, sym, ap, ◌∙◌, arith}
use Rattle.tx.specs.Fields.{Transaction}
use Rattle.mempool.specs.Mining.{Mined}
use Rattle.mempool.proofs.Blocks.{next_block, no_more, no_more_left, grown_on}
use Rattle.mempool.proofs.mining.mine_all.Goals as goal

pub overflow_add-txs : goal.overflow_add-txs
overflow_add-txs c = let few = no_more_left _ _ _ _ _ c.in_ok-mined.ensures.ok in omega (arith, c.loop-block.invariant.few)

pub loop-block-preserved : goal.loop-block-preserved
loop-block-preserved c =
    let more : c.args.count - c.loop-block._block ≡ suc (c.args.count - (c.loop-block._block + 1)) = omega arith in
    let few = no_more_left _ _ _ _ _ c.in_ok-mined.ensures.ok in
    record {
      blocks = next_block _ _ _ _ _ _ _ more c.in_ok-mined.ensures.ok c.loop-block.invariant.blocks;
      grown = grown_on _ _ _ c.loop-block.invariant.grown c.mine_one.ensures.grown;
      few = omega (arith, c.loop-block.invariant.few);
    }

pub returns-clause-ok : goal.returns-clause-ok
returns-clause-ok c =
    let with : List Transaction → Mined = λ ts. record { chain = c.loop-block.chain; waiting = ts; txs = c.loop-block.txs } in
    no_more _ _ _ (omega arith) c.loop-block.invariant.blocks ∙ ap with (sym c.in_ok-waiting.ensures)
