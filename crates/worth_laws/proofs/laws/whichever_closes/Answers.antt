use Rattle.worth_laws.proofs.Least.{whichever_closes}
use Rattle.worth_laws.proofs.laws.whichever_closes.Goals as goal

pub returns : goal.returns
returns c = whichever_closes c.shares_are_worth.ensures.shares c.shares_are_worth.ensures.all c.deductions_are_bounded.ensures.each c.deductions_are_bounded.ensures.both c.there_is_one_order.ensures c.sides_are_sound.ensures.numbered
