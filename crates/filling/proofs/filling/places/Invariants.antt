use Rattle.std.proofs.Common.{◌≡◌, take, map}
use Rattle.filling.proofs.filling.places.Given as goal

abbrev pub invariant-loop-claim : goal.invariant-loop-claim
invariant-loop-claim l = l.places.items ≡ map (λ c. c.place) (map (λ c. c.now) (take l.claim-index l.claims))
