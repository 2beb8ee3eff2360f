use Rattle.chain.proofs.Conserved.{conserved_there}
use Rattle.chain.proofs.index.Index.conserves_values.Goals as goal

pub returns : goal.returns
returns c = rw (← c.self.view_is) (conserved_there c.self.inside.blocks c.self.invariant.1.checked)
