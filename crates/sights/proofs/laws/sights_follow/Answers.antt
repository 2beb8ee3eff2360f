use Rattle.sights.proofs.Followed.{sights_follow}
use Rattle.sights.proofs.laws.sights_follow.Goals as goal

pub returns : goal.returns
returns c = sights_follow
