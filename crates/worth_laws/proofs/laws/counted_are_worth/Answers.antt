use Rattle.worth_laws.proofs.Counted.{counted_are_worth}
use Rattle.worth_laws.proofs.Due.{counted_are_due}
use Rattle.worth_laws.proofs.Fees.{fees_are_bounded}
use Rattle.worth_laws.proofs.laws.counted_are_worth.Goals as goal

pub returns-clause-worth : goal.returns-clause-worth
returns-clause-worth c = counted_are_worth c.there_is_one_order.ensures c.shares_are_worth.ensures.shares

pub returns-clause-fees : goal.returns-clause-fees
returns-clause-fees c = fees_are_bounded

pub returns-clause-due : goal.returns-clause-due
returns-clause-due c = counted_are_due
