use Rattle.safety.proofs.Closing.{who_closes}
use Rattle.safety.proofs.laws.who_closes.Goals as goal

pub returns : goal.returns
returns c = who_closes
