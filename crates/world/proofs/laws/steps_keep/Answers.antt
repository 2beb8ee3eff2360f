use Rattle.world.proofs.Kept.{steps_keep}
use Rattle.world.proofs.laws.steps_keep.Goals as goal

pub returns : goal.returns
returns c = steps_keep
