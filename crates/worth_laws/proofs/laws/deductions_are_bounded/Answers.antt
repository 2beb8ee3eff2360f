use Rattle.worth_laws.proofs.Bounds.{deductions_are_bounded, all_are_bounded, little_is_taken_off, little_of_all_is_taken_off}
use Rattle.worth_laws.proofs.laws.deductions_are_bounded.Goals as goal

pub returns-clause-each : goal.returns-clause-each
returns-clause-each c = deductions_are_bounded

pub returns-clause-both : goal.returns-clause-both
returns-clause-both c = all_are_bounded

pub returns-clause-sum : goal.returns-clause-sum
returns-clause-sum c = little_is_taken_off c.shares_are_worth.ensures.shares

pub returns-clause-all : goal.returns-clause-all
returns-clause-all c = little_of_all_is_taken_off c.shares_are_worth.ensures.all
