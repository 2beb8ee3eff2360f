use Rattle.std.proofs.Common.{◌≡◌, [], drop}
use Rattle.paths.specs.Listing.{is_balanced}
use Rattle.paths.proofs.balance.is_balanced.Given as goal

abbrev pub invariant-loop-op : goal.invariant-loop-op
invariant-loop-op l = is_balanced l.ops [] ≡ is_balanced (drop l.op-index l.ops) l.ifs
