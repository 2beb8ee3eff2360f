use Rattle.std.proofs.Common.{◌≡◌, ◌+◌, ◌*◌, ◌^◌, ◌≤◌, drop}
use Rattle.updates.specs.Pending.{total_amount_msat}
use Rattle.updates.proofs.pending.Pending.total_amount_msat.Given as goal

abbrev pub invariant-loop-pending : goal.invariant-loop-pending
invariant-loop-pending l = record { sum : total_amount_msat (drop l.pending-index l.self.htlcs.items) + l.sum ≡ total_amount_msat l.self.htlcs.items; bound : l.sum ≤ 2 ^ 64 * l.pending-index }
