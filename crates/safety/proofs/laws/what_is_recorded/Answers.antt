use Rattle.safety.proofs.Taken.{numbered_are_own, grants_are_out_points}
use Rattle.safety.proofs.laws.what_is_recorded.Goals as goal

pub returns-clause-own : goal.returns-clause-own
returns-clause-own c = numbered_are_own

pub returns-clause-grants : goal.returns-clause-grants
returns-clause-grants c = grants_are_out_points
