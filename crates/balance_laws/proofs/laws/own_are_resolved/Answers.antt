use Rattle.balance_laws.proofs.OwnBalances.{own_are_resolved}
use Rattle.balance_laws.proofs.OwnRules.{lived_keep_own_rules}
use Rattle.balance_laws.proofs.laws.own_are_resolved.Goals as goal

pub returns-clause-own : goal.returns-clause-own
returns-clause-own c = own_are_resolved c.there_is_one_order.ensures c.shares_are_worth.ensures.shares c.whichever_closes.ensures

pub returns-clause-rules : goal.returns-clause-rules
returns-clause-rules c = lived_keep_own_rules c.sides_are_sound.ensures.recorded
