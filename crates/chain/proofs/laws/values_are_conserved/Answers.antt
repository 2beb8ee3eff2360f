use Rattle.chain.proofs.Conserved.{conserved}
use Rattle.chain.proofs.laws.values_are_conserved.Goals as goal

pub returns : goal.returns
returns c = conserved
