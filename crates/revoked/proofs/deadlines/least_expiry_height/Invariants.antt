use Rattle.std.proofs.Common.{◌≡◌, map, reverse}
use Rattle.revoked.specs.Deadlines.{least_expiry_height}
use Rattle.revoked.proofs.deadlines.least_expiry_height.Given as goal

-- those that came are the last ones
abbrev pub invariant-loop-other : goal.invariant-loop-other
invariant-loop-other l = l.least ≡ least_expiry_height l.htlc (reverse (map (λ o. o.now) l.yielded))
