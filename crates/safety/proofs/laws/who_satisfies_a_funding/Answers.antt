use Rattle.safety.proofs.Satisfied.{funding_satisfied}
use Rattle.safety.proofs.laws.who_satisfies_a_funding.Goals as goal

pub returns : goal.returns
returns c = funding_satisfied
