use Rattle.std.proofs.Common.{◌≡◌, ◌-◌}
use Rattle.secrets.specs.Buckets.{secret_from}
use Rattle.secrets.proofs.store.Store.get.Given as goal

-- no bucket from here up reaches the index
abbrev pub invariant-loop-bucket : goal.invariant-loop-bucket
invariant-loop-bucket l =
    secret_from l.self-inside.entries l.self-inside.lowest l.i 48 ≡ secret_from l.self-inside.entries l.self-inside.lowest l.i (l.bucket - 1)
