use Rattle.commit.proofs.Ordered.{there_is_one}
use Rattle.commit.proofs.laws.there_is_one_order.Goals as goal

pub returns : goal.returns
returns c = there_is_one
