use Rattle.std.proofs.Common.{◌≡◌, take, map}
use Rattle.filling.specs.Filling.{unsigned_input}
use Rattle.filling.proofs.unsigned.unsigned_inputs.Given as goal

abbrev pub invariant-loop-claim : goal.invariant-loop-claim
invariant-loop-claim l = l.inputs ≡ map unsigned_input (map (λ c. c.now) (take l.claim-index l.claims))
