use Rattle.safety.proofs.Resolving.{peers_are_resolved}
use Rattle.safety.proofs.Separate.{revoked_are_resolved}
use Rattle.safety.proofs.laws.what_becomes_of_outputs.Goals as goal

pub returns-clause-revoked : goal.returns-clause-revoked
returns-clause-revoked c = revoked_are_resolved

pub returns-clause-peers : goal.returns-clause-peers
returns-clause-peers c = peers_are_resolved
