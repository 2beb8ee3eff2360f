use Rattle.std.proofs.Common.{◌≡◌, ◌+◌, ◌*◌, ◌^◌, ◌≤◌, length, filter, drop}
use Rattle.updates.specs.Pending.{fulfilled_at, is_left}
use Rattle.updates.proofs.pending.Pending.fulfilled_at.Given as goal

abbrev pub invariant-loop-pending : goal.invariant-loop-pending
invariant-loop-pending l = record { most : l.sum ≤ l.self.fulfilled + 2 ^ 64 * l.pending-index; sum : fulfilled_at l.added l.removed (drop l.pending-index l.self.htlcs.items) + l.sum ≡ l.self.fulfilled + fulfilled_at l.added l.removed l.self.htlcs.items; bound : l.sum + 2 ^ 64 * length (filter (is_left l.removed) l.self.htlcs.items) ≤ l.self.fulfilled + 2 ^ 64 * l.pending-index + 2 ^ 64 * length (filter (is_left l.removed) (drop l.pending-index l.self.htlcs.items)) }
