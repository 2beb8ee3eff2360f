use Rattle.std.proofs.Common.{◌≡◌, ◌++◌, drop}
use Rattle.updates.specs.Pending.{live_at}
use Rattle.updates.proofs.pending.Pending.live_at.Given as goal

abbrev pub invariant-loop-pending : goal.invariant-loop-pending
invariant-loop-pending l = l.live.items ++ live_at l.added l.removed (drop l.pending-index l.self.htlcs.items) ≡ live_at l.added l.removed l.self.htlcs.items
