use Rattle.std.proofs.Common.{◌≡◌, ℕ, ◌++◌, drop}
use Rattle.tx.specs.Spelling.{transaction_id}
use Rattle.chain.specs.Blocks.{creations_from}
use Rattle.chain.specs.Totals.{unspent_values}
use Rattle.chain.proofs.totals.push_outputs.Given as goal

abbrev pub invariant-loop-index : goal.invariant-loop-index
invariant-loop-index g l =
    let blocks = (g.S.Store.standing l.store).blocks in
    let id = transaction_id l.confirmed in
    (height : ℕ) → l.values.items ++ unspent_values blocks (creations_from id height l.index (drop l.index l.outputs)) ≡ l.fn.values.items ++ unspent_values blocks (creations_from id height 0 l.outputs)
