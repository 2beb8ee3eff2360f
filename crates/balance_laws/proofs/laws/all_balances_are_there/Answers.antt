use Rattle.balance_laws.proofs.OwnBalances.{all_balances_are_there}
use Rattle.balance_laws.proofs.laws.all_balances_are_there.Goals as goal

pub returns : goal.returns
returns c =
    all_balances_are_there c.there_is_one_order.ensures c.shares_are_worth.ensures.shares c.shares_are_worth.ensures.all c.whichever_closes.ensures c.one_against_everybody.ensures
