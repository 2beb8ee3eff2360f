use Rattle.balance_laws.proofs.Balances.{balances_are_there, closers_may_close}
use Rattle.balance_laws.proofs.laws.balances_are_there.Goals as goal

pub returns-clause-there : goal.returns-clause-there
returns-clause-there c =
    balances_are_there c.there_is_one_order.ensures c.shares_are_worth.ensures.shares c.shares_are_worth.ensures.all c.whichever_closes.ensures c.one_against_everybody.ensures

pub returns-clause-closers : goal.returns-clause-closers
returns-clause-closers c = closers_may_close
