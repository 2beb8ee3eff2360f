use Rattle.penalty.proofs.Worth.{first, each_stage, each_claimable}
use Rattle.penalty.proofs.laws.claims_are_worth_the_capacity.Goals as goal

pub returns-clause-first : goal.returns-clause-first
returns-clause-first c = first

pub returns-clause-each : goal.returns-clause-each
returns-clause-each c = each_stage

pub returns-clause-claimable : goal.returns-clause-claimable
returns-clause-claimable c = each_claimable
