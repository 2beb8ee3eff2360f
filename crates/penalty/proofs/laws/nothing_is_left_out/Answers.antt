use Rattle.penalty.proofs.Covering.{each_output, each_second_stage}
use Rattle.penalty.proofs.laws.nothing_is_left_out.Goals as goal

pub returns-clause-outputs : goal.returns-clause-outputs
returns-clause-outputs c = each_output

pub returns-clause-second_stages : goal.returns-clause-second_stages
returns-clause-second_stages c = each_second_stage
