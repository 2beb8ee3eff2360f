use Rattle.std.proofs.Common.{◌≡◌, ◌++◌, map, take}
use Rattle.chain.specs.Blocks.{fee_of}
use Rattle.chain.proofs.totals.push_fees.Given as goal

abbrev pub invariant-loop-confirmed : goal.invariant-loop-confirmed
invariant-loop-confirmed g l = l.fees.items ≡ l.fn.fees.items ++ map (fee_of (g.S.Store.standing l.store).blocks) (take l.confirmed-index l.transactions)
