use Rattle.std.proofs.Common.{◌≡◌, map, take}
use Rattle.enforce_c.proofs.spending.lent.Given as goal

abbrev pub invariant-loop-claim : goal.invariant-loop-claim
invariant-loop-claim l = map (λ c. c.now) l.lent.items ≡ take l.claim-index l.claims
