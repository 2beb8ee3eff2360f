use Rattle.std.proofs.Common.{◌≡◌, ◌++◌, take}
use Rattle.chain.proofs.connecting.copy_onto.Given as goal

abbrev pub invariant-loop-confirmed : goal.invariant-loop-confirmed
invariant-loop-confirmed l = l.txs.items ≡ l.initial.txs.items ++ take l.confirmed-index l.transactions
