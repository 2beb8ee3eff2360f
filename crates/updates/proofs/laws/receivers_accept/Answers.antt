use Rattle.updates.proofs.Accepting.{update_accepted}
use Rattle.updates.proofs.laws.receivers_accept.Goals as goal

pub returns : goal.returns
returns c = update_accepted
