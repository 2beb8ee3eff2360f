use Rattle.std.proofs.Common.{◌≡◌, ◌+◌, ◌*◌, ◌^◌, ◌≤◌, drop}
use Rattle.updates.specs.Shares.{amounts_msat}
use Rattle.updates.proofs.shares.amounts_msat.Given as goal

abbrev pub invariant-loop-htlc : goal.invariant-loop-htlc
invariant-loop-htlc l = record { sum : amounts_msat (drop l.htlc-index l.htlcs) + l.sum ≡ amounts_msat l.htlcs; bound : l.sum ≤ 2 ^ 64 * l.htlc-index }
