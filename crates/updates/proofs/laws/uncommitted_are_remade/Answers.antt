use Rattle.updates.proofs.Making.{remade}
use Rattle.updates.proofs.laws.uncommitted_are_remade.Goals as goal

pub returns : goal.returns
returns c = remade
