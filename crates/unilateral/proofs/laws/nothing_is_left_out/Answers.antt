use Rattle.unilateral.proofs.Told.{each_told, each_on_output, without_claims}
use Rattle.unilateral.proofs.laws.nothing_is_left_out.Goals as goal

pub returns-clause-told : goal.returns-clause-told
returns-clause-told c = each_told

pub returns-clause-on_outputs : goal.returns-clause-on_outputs
returns-clause-on_outputs c = each_on_output

pub returns-clause-others : goal.returns-clause-others
returns-clause-others c = without_claims
