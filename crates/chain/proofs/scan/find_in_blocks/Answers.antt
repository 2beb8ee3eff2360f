use Rattle.std.proofs.Common.{◌≡◌, ◌+◌, ◌%◌, ◌^◌, length, take, sym, ap, ◌∙◌, arith}
use Rattle.std.proofs.lemmas.List.{length-reverse}
use Rattle.chain.specs.Blocks.{grants_in}
use Rattle.chain.specs.Scanning.{found_in}
use Rattle.chain.proofs.Finding.{created_of_order, in_transactions, in_grants, in_later, grants_next, blocks_end}
use Rattle.chain.proofs.Growing.{counts_on}
use Rattle.chain.proofs.scan.find_in_blocks.Goals as goal

pub returns-in-Some : goal.returns-in-Some
returns-in-Some c =
    let h = c.loop-height.height in
    in_transactions c.args.outpoint.now h (grants_in (take h c.args.blocks.now)) c.args.blocks.now c.index-blocks-height.result c.transactions.result.now (c.in-Some.output.now, h) _ c.index-blocks-height.is (omega arith) c.transactions.ensures (c.in-Some.ensures h) c.loop-height.invariant.1
    ∙ sym (ap (found_in c.args.outpoint.now) (created_of_order c.args.blocks.now))

pub returns-in-Some-find_in_grants : goal.returns-in-Some-find_in_grants
returns-in-Some-find_in_grants c =
    let h = c.loop-height.height in
    let g = grants_in (take h c.args.blocks.now) in
    in_grants c.args.outpoint.now h g c.args.blocks.now c.index-blocks-height.result c.transactions.result.now c.granted.result.now (c.in-Some-find_in_grants.output.now, h) _ c.index-blocks-height.is (omega arith) c.transactions.ensures c.granted.ensures (c.in_default.ensures h) (c.in-Some-find_in_grants.ensures h g c.loop-height.invariant.0) c.loop-height.invariant.1
    ∙ sym (ap (found_in c.args.outpoint.now) (created_of_order c.args.blocks.now))

pub loop-height-preserved : goal.loop-height-preserved
loop-height-preserved c =
    let h = c.loop-height.height in
    let g = grants_in (take h c.args.blocks.now) in
    let next = grants_next c.args.blocks.now h c.index-blocks-height.result c.index-blocks-height.is (omega arith) in
    let count : length c.granted-in-loop-height.result.now ≡ length c.index-blocks-height.result.granted = ap length c.granted-in-loop-height.ensures ∙ length-reverse c.index-blocks-height.result.granted in (
      counts_on c.loop-height.grants g (length c.granted-in-loop-height.result.now) c.loop-height.invariant.0 ∙ ap (λ n. n % 2 ^ 64) (ap (λ n. g + n) count ∙ next),
      in_later c.args.outpoint.now h g (grants_in (take (h + 1) c.args.blocks.now)) c.args.blocks.now c.index-blocks-height.result c.transactions.result.now c.granted.result.now _ c.index-blocks-height.is (omega arith) c.transactions.ensures c.granted.ensures (c.in_default.ensures h) (c.in_default-find_in_grants.ensures h g c.loop-height.invariant.0) next c.loop-height.invariant.1,
    )

pub returns : goal.returns
returns c =
    sym (ap (found_in c.args.outpoint.now) (created_of_order c.args.blocks.now)
    ∙ sym c.loop-height.invariant.1
    ∙ blocks_end c.args.outpoint.now c.loop-height.height (grants_in (take c.loop-height.height c.args.blocks.now)) c.args.blocks.now c.loop-height.height (omega arith))
