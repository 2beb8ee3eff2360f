use Rattle.due_laws.proofs.Telling.{counted_are_told}
use Rattle.due_laws.proofs.laws.counted_are_told.Goals as goal

pub returns : goal.returns
returns c = counted_are_told
