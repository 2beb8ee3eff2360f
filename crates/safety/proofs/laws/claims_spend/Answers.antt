use Rattle.safety.proofs.DueClaims.{claims_open, locks_are_heights}
use Rattle.safety.proofs.laws.claims_spend.Goals as goal

pub returns-clause-spends : goal.returns-clause-spends
returns-clause-spends c = claims_open c.accepted_claims_spend.ensures.spends c.accepted_claims_spend.ensures.clean

pub returns-clause-locks : goal.returns-clause-locks
returns-clause-locks c = locks_are_heights c.accepted_claims_spend.ensures.timed
