use Rattle.due_laws.proofs.Filling.{dues_are_fillable}
use Rattle.due_laws.proofs.laws.dues_are_fillable.Goals as goal

pub returns : goal.returns
returns c = dues_are_fillable c.peer_can_fill.ensures c.due_places.ensures.known
