use Rattle.safety.proofs.Ids.{one_id}
use Rattle.safety.proofs.laws.one_id.Goals as goal

pub returns : goal.returns
returns c = one_id
