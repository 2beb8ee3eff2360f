use Rattle.watch.proofs.Staying.{stays_due}
use Rattle.watch.proofs.laws.given_stays_due.Goals as goal

pub returns : goal.returns
returns c = stays_due
