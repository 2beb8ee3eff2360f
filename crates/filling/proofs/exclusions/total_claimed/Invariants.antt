use Rattle.std.proofs.Common.{◌≡◌, ◌+◌, ◌*◌, ◌^◌, ◌≤◌, drop, map}
use Rattle.filling.specs.Refusals.{total_claimed}
use Rattle.filling.proofs.exclusions.total_claimed.Given as goal

abbrev pub invariant-loop-claim : goal.invariant-loop-claim
invariant-loop-claim l = record {
  rest : l.total + total_claimed (map (λ c. c.now) (drop l.claim-index l.claims)) ≡ total_claimed (map (λ c. c.now) l.claims);
  small : l.total ≤ l.claim-index * 2 ^ 64;
}
