use Rattle.commit.proofs.Shared.{shared}
use Rattle.commit.proofs.laws.shared_views_have_commitments.Goals as goal

pub returns : goal.returns
returns c = shared
