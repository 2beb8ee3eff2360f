use Rattle.world.proofs.Calls.{deliveries_are_taken}
use Rattle.world.proofs.laws.deliveries_are_taken.Goals as goal

pub returns : goal.returns
returns c = deliveries_are_taken c.peers_agree.ensures.reached
