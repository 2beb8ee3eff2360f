use Rattle.safety.proofs.Passed.{inputs_have_passed}
use Rattle.safety.proofs.laws.inputs_have_passed.Goals as goal

pub returns : goal.returns
returns c = inputs_have_passed
