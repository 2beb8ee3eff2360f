use Rattle.safety.proofs.Newest.{newest_passes}
use Rattle.safety.proofs.laws.newest_passes.Goals as goal

pub returns : goal.returns
returns c = newest_passes c.commitments_spend.ensures
