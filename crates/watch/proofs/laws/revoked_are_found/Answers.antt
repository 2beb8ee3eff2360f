use Rattle.watch.proofs.Finding.{revoked_are_found as found, only_revoked_are_found as only}
use Rattle.watch.proofs.laws.revoked_are_found.Goals as goal

pub returns-clause-found : goal.returns-clause-found
returns-clause-found c = found

pub returns-clause-only : goal.returns-clause-only
returns-clause-only c = only
