use Rattle.commit.proofs.Funds.{each_is_placed, nothing_is_created}
use Rattle.commit.proofs.laws.nothing_is_created.Goals as goal

pub returns-clause-placed : goal.returns-clause-placed
returns-clause-placed c = each_is_placed

pub returns-clause-limited : goal.returns-clause-limited
returns-clause-limited c = nothing_is_created
