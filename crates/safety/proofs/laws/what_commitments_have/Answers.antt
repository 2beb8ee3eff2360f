use Rattle.safety.proofs.Recorded.{recorded_limits, same_number}
use Rattle.safety.proofs.laws.what_commitments_have.Goals as goal

pub returns-clause-limits : goal.returns-clause-limits
returns-clause-limits c = recorded_limits

pub returns-clause-number : goal.returns-clause-number
returns-clause-number c = same_number
