use Rattle.safety.proofs.Seeds.{sides_differ}
use Rattle.safety.proofs.laws.sides_differ.Goals as goal

pub returns : goal.returns
returns c = sides_differ
