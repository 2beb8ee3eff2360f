use Rattle.penalty.proofs.Filling.{peer_can_fill}
use Rattle.penalty.proofs.laws.peer_can_fill.Goals as goal

pub returns : goal.returns
returns c = peer_can_fill
