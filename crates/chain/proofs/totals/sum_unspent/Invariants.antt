use Rattle.std.proofs.Common.{◌≡◌, ◌++◌, ◌%◌, ◌^◌, take, drop}
use Rattle.chain.specs.Blocks.{grants_in}
use Rattle.chain.specs.Scanning.{created_from}
use Rattle.chain.specs.Totals.{unspent_values}
use Rattle.chain.proofs.totals.sum_unspent.Given as goal

abbrev pub invariant-loop-block : goal.invariant-loop-block
invariant-loop-block g l =
    let blocks = (g.S.Store.standing l.store).blocks in
    let before = grants_in (take l.block-index l.blocks) in
    (l.grants ≡ before % 2 ^ 64)
    × (l.values.items ++ unspent_values blocks (created_from l.block-index before (drop l.block-index l.blocks)) ≡ unspent_values blocks (created_from 0 0 l.blocks))
