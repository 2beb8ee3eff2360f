use Rattle.worth_laws.proofs.Shares.{shares_are_placed}
use Rattle.worth_laws.proofs.laws.shares_are_placed.Goals as goal

pub returns : goal.returns
returns c = shares_are_placed c.there_is_one_order.ensures
