use Rattle.std.proofs.Common.{◌≡◌, drop}
use Rattle.updates.specs.Pending.{found_in}
use Rattle.updates.proofs.pending.Pending.find.Given as goal

abbrev pub invariant-loop-pending : goal.invariant-loop-pending
invariant-loop-pending l = found_in l.id l.added l.removed (drop l.pending-index l.self.htlcs.items) ≡ found_in l.id l.added l.removed l.self.htlcs.items
