use Rattle.worth_laws.proofs.Shares.{shares_are_worth, all_is_the_capacity}
use Rattle.worth_laws.proofs.laws.shares_are_worth.Goals as goal

pub returns-clause-shares : goal.returns-clause-shares
returns-clause-shares c = shares_are_worth c.there_is_one_order.ensures

pub returns-clause-all : goal.returns-clause-all
returns-clause-all c = all_is_the_capacity c.there_is_one_order.ensures
