use Rattle.std.proofs.Common.{◌≡◌, ◌<◌, max, drop, map}
use Rattle.claim.specs.Claims.{lock_time_of}
use Rattle.filling.specs.Filling.{greatest_of}
use Rattle.filling.proofs.unsigned.greatest_lock_time.Given as goal

abbrev pub invariant-loop-claim : goal.invariant-loop-claim
invariant-loop-claim l = record {
  rest : max l.greatest (greatest_of (map lock_time_of (map (λ c. c.now) (drop l.claim-index l.claims)))) ≡ greatest_of (map lock_time_of (map (λ c. c.now) l.claims));
  below : l.greatest < 500000000;
}
