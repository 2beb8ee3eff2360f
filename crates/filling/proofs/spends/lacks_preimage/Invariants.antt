use Rattle.std.proofs.Common.{◌≡◌, drop, map}
use Rattle.std.specs.List.{list_any}
use Rattle.filling.specs.Spends.{lacks_preimage}
use Rattle.filling.proofs.spends.lacks_preimage.Given as goal

abbrev pub invariant-loop-claim : goal.invariant-loop-claim
invariant-loop-claim l = list_any (lacks_preimage l.preimages) (map (λ c. c.now) (drop l.claim-index l.claims)) ≡ list_any (lacks_preimage l.preimages) (map (λ c. c.now) l.claims)
