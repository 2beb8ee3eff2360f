use Rattle.std.proofs.Common.{◌≡◌, ◌++◌, drop}
use Rattle.watch.specs.Watching.{Extends, spends_in}
use Rattle.watch.proofs.spends.push_spends.Given as goal

-- what is left gives the whole
abbrev pub invariant-loop-confirmed : goal.invariant-loop-confirmed
invariant-loop-confirmed l = record {
  rest : l.spends.items ++ spends_in l.funding l.height (drop l.confirmed-index l.txs) ≡ l.fn.spends.items ++ spends_in l.funding l.height l.txs;
  kept : Extends l.fn.spends.items l.spends.items;
}
