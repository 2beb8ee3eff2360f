use Rattle.std.proofs.Common.{◌≡◌, map, take}
use Rattle.side.proofs.batches.claims_of.Given as goal

abbrev pub invariant-loop-due_claim : goal.invariant-loop-due_claim
invariant-loop-due_claim l = l.claims ≡ map (λ d. d.claim) (map (λ d. d.now) (take l.due_claim-index l.due))
