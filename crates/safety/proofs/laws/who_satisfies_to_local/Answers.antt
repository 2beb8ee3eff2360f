use Rattle.safety.proofs.Satisfied.{to_local_satisfied}
use Rattle.safety.proofs.laws.who_satisfies_to_local.Goals as goal

pub returns : goal.returns
returns c = to_local_satisfied
