use Rattle.texts.proofs.CallReturning.{openings_come_back, own_steps_come_back, updated_again, received_steps_come_back, signs_come_back, revokes_come_back, keeps_come_back, releases_come_back, closes_come_back, entries_come_back, dumps_come_back}
use Rattle.texts.proofs.laws.what_is_dumped_comes_back.Goals as goal

pub returns-clause-openings : goal.returns-clause-openings
returns-clause-openings c = openings_come_back

pub returns-clause-own_steps : goal.returns-clause-own_steps
returns-clause-own_steps c = own_steps_come_back

pub returns-clause-received_updates : goal.returns-clause-received_updates
returns-clause-received_updates c = updated_again

pub returns-clause-received_steps : goal.returns-clause-received_steps
returns-clause-received_steps c = received_steps_come_back

pub returns-clause-signs : goal.returns-clause-signs
returns-clause-signs c = signs_come_back

pub returns-clause-revokes : goal.returns-clause-revokes
returns-clause-revokes c = revokes_come_back

pub returns-clause-keeps : goal.returns-clause-keeps
returns-clause-keeps c = keeps_come_back

pub returns-clause-releases : goal.returns-clause-releases
returns-clause-releases c = releases_come_back

pub returns-clause-closes : goal.returns-clause-closes
returns-clause-closes c = closes_come_back

pub returns-clause-entries : goal.returns-clause-entries
returns-clause-entries c = entries_come_back

pub returns-clause-dumps : goal.returns-clause-dumps
returns-clause-dumps c = dumps_come_back
