use Rattle.std.proofs.Common.{◌≡◌, map, take}
use Rattle.enforce_c.specs.Found.{row_of_claim}
use Rattle.enforce_c.proofs.finding.rows_of_claims.Given as goal

abbrev pub invariant-loop-claim : goal.invariant-loop-claim
invariant-loop-claim l = l.rows.items ≡ map (row_of_claim l.close l.confirmed_height) (take l.claim-index l.claims)
