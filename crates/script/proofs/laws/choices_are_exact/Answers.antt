use Rattle.script.proofs.Choosing.{assigned_is_exact}
use Rattle.script.proofs.laws.choices_are_exact.Goals as goal

pub returns : goal.returns
returns c = assigned_is_exact
