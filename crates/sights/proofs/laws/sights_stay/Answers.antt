use Rattle.sights.proofs.Staying.{sights_stay}
use Rattle.sights.proofs.laws.sights_stay.Goals as goal

pub returns : goal.returns
returns c = sights_stay
