use Rattle.std.proofs.Common.{◌≡◌, drop, map}
use Rattle.filling.specs.Refusals.{has_fixed}
use Rattle.filling.proofs.exclusions.has_fixed.Given as goal

abbrev pub invariant-loop-claim : goal.invariant-loop-claim
invariant-loop-claim l = has_fixed (map (λ c. c.now) (drop l.claim-index l.claims)) ≡ has_fixed (map (λ c. c.now) l.claims)
