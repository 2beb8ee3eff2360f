use Rattle.safety.proofs.Separate.{revoked_against_everybody}
use Rattle.safety.proofs.laws.revoked_against_everybody.Goals as goal

pub returns : goal.returns
returns c = revoked_against_everybody
