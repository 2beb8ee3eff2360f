use Rattle.world.proofs.Opened.{fundings_are_spent, openings_are_paired, openings_are_taken}
use Rattle.world.proofs.laws.openings_agree.Goals as goal

pub returns-clause-spent : goal.returns-clause-spent
returns-clause-spent c = fundings_are_spent

pub returns-clause-paired : goal.returns-clause-paired
returns-clause-paired c = openings_are_paired

pub returns-clause-taken : goal.returns-clause-taken
returns-clause-taken c = openings_are_taken
