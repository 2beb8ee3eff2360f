use Rattle.safety.proofs.Whereabouts.{nothing_is_lost}
use Rattle.safety.proofs.laws.nothing_is_lost.Goals as goal

pub returns : goal.returns
returns c = nothing_is_lost
