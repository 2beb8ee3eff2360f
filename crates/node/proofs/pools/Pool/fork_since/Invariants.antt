use Rattle.std.proofs.Common.{◌≡◌, min, drop, fold}
use Rattle.node.proofs.pools.Pool.fork_since.Given as goal

abbrev pub invariant-loop-index : goal.invariant-loop-index
invariant-loop-index l = fold min l.least (drop l.index l.self.forks.items) ≡ fold min l.initial.height (drop l.initial.round l.self.forks.items)
