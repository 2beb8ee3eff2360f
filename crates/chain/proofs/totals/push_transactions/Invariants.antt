use Rattle.std.proofs.Common.{◌≡◌, ℕ, ◌++◌, drop}
use Rattle.std.specs.List.{flat_map}
use Rattle.chain.specs.Blocks.{created_by}
use Rattle.chain.specs.Totals.{unspent_values}
use Rattle.chain.proofs.totals.push_transactions.Given as goal

abbrev pub invariant-loop-confirmed : goal.invariant-loop-confirmed
invariant-loop-confirmed g l =
    let blocks = (g.S.Store.standing l.store).blocks in
    (height : ℕ) → l.values.items ++ unspent_values blocks (flat_map (created_by height) (drop l.confirmed-index l.transactions)) ≡ l.fn.values.items ++ unspent_values blocks (flat_map (created_by height) l.transactions)
