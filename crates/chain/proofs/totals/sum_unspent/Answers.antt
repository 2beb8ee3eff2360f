use Rattle.std.proofs.Common.{◌≡◌, ◌+◌, ◌%◌, ◌^◌, length, take, ap, ◌∙◌, arith}
use Rattle.std.proofs.lemmas.List.{length-reverse}
use Rattle.chain.specs.Blocks.{grants_in}
use Rattle.chain.proofs.Finding.{grants_next}
use Rattle.chain.proofs.Growing.{counts_on}
use Rattle.chain.proofs.Sums.{blocks_on, unspent_total}
use Rattle.chain.proofs.totals.sum_unspent.Goals as goal

pub loop-block-preserved : goal.loop-block-preserved
loop-block-preserved g c =
    let blocks = (g.S.Store.standing c.args.store.now).blocks in
    let bs = c.blocks-blocks.result.now in
    let h = c.loop-block.block-index in
    let before = grants_in (take h bs) in
    let next = grants_next bs h c.block-item.result c.block-item.is (omega arith) in
    let count : length c.granted-in-loop-block.result.now ≡ length c.block-item.result.granted = ap length c.granted-in-loop-block.ensures ∙ length-reverse c.block-item.result.granted in (
      counts_on c.loop-block.grants before (length c.granted-in-loop-block.result.now) c.loop-block.invariant.0 ∙ ap (λ n. n % 2 ^ 64) (ap (λ n. before + n) count ∙ next),
      blocks_on blocks bs h before (grants_in (take (h + 1) bs)) c.block-item.result c.transactions.result.now c.granted.result.now c.loop-block.values.items c.push_transactions.new.values.items c.push_grants.new.values.items _ c.block-item.is (omega arith) c.transactions.ensures c.granted.ensures (c.in_ok-push_transactions.ensures h) (c.in_ok-push_grants.ensures h before c.loop-block.invariant.0) next c.loop-block.invariant.1,
    )

pub returns : goal.returns
returns g c =
    let bs = c.blocks-blocks.result.now in
    let h = c.loop-block.block-index in
    unspent_total (g.S.Store.standing c.args.store.now).blocks bs h (grants_in (take h bs)) c.loop-block.values.items c.len.result c.sum_of.result c.blocks-blocks.ensures.value c.loop-block.invariant.1 (omega arith) (omega (arith, c.len.ensures, c.loop-block.values.ok.0)) (cc)
