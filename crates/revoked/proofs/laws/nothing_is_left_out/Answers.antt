use Rattle.revoked.proofs.Told.{each_told, told_once, each_on_output}
use Rattle.revoked.proofs.laws.nothing_is_left_out.Goals as goal

pub returns-clause-told : goal.returns-clause-told
returns-clause-told c = each_told

pub returns-clause-once : goal.returns-clause-once
returns-clause-once c = told_once

pub returns-clause-on_outputs : goal.returns-clause-on_outputs
returns-clause-on_outputs c = each_on_output
