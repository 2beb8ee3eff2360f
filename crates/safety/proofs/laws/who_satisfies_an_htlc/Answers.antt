use Rattle.safety.proofs.Satisfied.{offered_satisfied, received_satisfied}
use Rattle.safety.proofs.laws.who_satisfies_an_htlc.Goals as goal

pub returns-clause-offered : goal.returns-clause-offered
returns-clause-offered c = offered_satisfied

pub returns-clause-received : goal.returns-clause-received
returns-clause-received c = received_satisfied
