use Rattle.std.proofs.Common.{◌≡◌, ℕ, ◌+◌, ◌%◌, ◌^◌, ◌++◌, drop}
use Rattle.chain.specs.Scanning.{grants_from}
use Rattle.chain.specs.Totals.{unspent_values}
use Rattle.chain.proofs.totals.push_grants.Given as goal

abbrev pub invariant-loop-index : goal.invariant-loop-index
invariant-loop-index g l =
    let blocks = (g.S.Store.standing l.store).blocks in
    (height n : ℕ) → l.before ≡ n % 2 ^ 64 → l.values.items ++ unspent_values blocks (grants_from height (n + l.index) (drop l.index l.granted)) ≡ l.fn.values.items ++ unspent_values blocks (grants_from height n l.granted)
