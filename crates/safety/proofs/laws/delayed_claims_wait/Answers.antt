use Rattle.safety.proofs.Waiting.{delayed_waits, each_input_fits}
use Rattle.safety.proofs.laws.delayed_claims_wait.Goals as goal

pub returns-clause-waits : goal.returns-clause-waits
returns-clause-waits c = delayed_waits

pub returns-clause-inputs : goal.returns-clause-inputs
returns-clause-inputs c = each_input_fits
