use Rattle.safety.proofs.Taken.{taken, taken_on_chains}
use Rattle.safety.proofs.laws.taken.Goals as goal

pub returns-clause-inputs : goal.returns-clause-inputs
returns-clause-inputs c = taken

pub returns-clause-chains : goal.returns-clause-chains
returns-clause-chains c = taken_on_chains
