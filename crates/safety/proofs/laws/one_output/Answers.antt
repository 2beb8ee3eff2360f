use Rattle.safety.proofs.Outputs.{one_output}
use Rattle.safety.proofs.laws.one_output.Goals as goal

pub returns : goal.returns
returns c = one_output
