use Rattle.texts.proofs.Names.{names_are_all}
use Rattle.texts.proofs.laws.names_are_all.Goals as goal

pub returns : goal.returns
returns c = names_are_all
