use Rattle.due_laws.proofs.Recorded.{dues_are_recorded}
use Rattle.due_laws.proofs.laws.dues_are_recorded.Goals as goal

pub returns : goal.returns
returns c = dues_are_recorded c.due_places.ensures.known
