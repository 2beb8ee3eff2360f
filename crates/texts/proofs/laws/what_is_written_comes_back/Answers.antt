use Rattle.texts.proofs.Returning.{terms_come_back, outputs_come_back, updates_come_back}
use Rattle.texts.proofs.ClaimReturning.{outpoints_come_back, slots_come_back, shells_come_back, claims_come_back}
use Rattle.texts.proofs.laws.what_is_written_comes_back.Goals as goal

pub returns-clause-terms : goal.returns-clause-terms
returns-clause-terms c = terms_come_back

pub returns-clause-outputs : goal.returns-clause-outputs
returns-clause-outputs c = outputs_come_back

pub returns-clause-updates : goal.returns-clause-updates
returns-clause-updates c = updates_come_back

pub returns-clause-outpoints : goal.returns-clause-outpoints
returns-clause-outpoints c = outpoints_come_back

pub returns-clause-slots : goal.returns-clause-slots
returns-clause-slots c = slots_come_back

pub returns-clause-shells : goal.returns-clause-shells
returns-clause-shells c = shells_come_back

pub returns-clause-claims : goal.returns-clause-claims
returns-clause-claims c = claims_come_back
