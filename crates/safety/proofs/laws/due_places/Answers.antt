use Rattle.safety.proofs.Places.{owners_places, peers_places, revoked_places, known_places}
use Rattle.safety.proofs.laws.due_places.Goals as goal

pub returns-clause-owners : goal.returns-clause-owners
returns-clause-owners c = owners_places

pub returns-clause-peers : goal.returns-clause-peers
returns-clause-peers c = peers_places

pub returns-clause-revoked : goal.returns-clause-revoked
returns-clause-revoked c = revoked_places

pub returns-clause-known : goal.returns-clause-known
returns-clause-known c = known_places
