use Rattle.std.proofs.Common.{◌≡◌, take}
use Rattle.penalty.proofs.sets.copied_claims.Given as goal

abbrev pub invariant-loop-claim : goal.invariant-loop-claim
invariant-loop-claim l = l.copies.items ≡ take l.claim-index l.claims
