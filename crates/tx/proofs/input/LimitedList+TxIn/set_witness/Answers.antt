use Rattle.tx.proofs.Witnesses.{set_is}
use Rattle.tx.proofs.input.LimitedList+TxIn.set_witness.Goals as goal

pub returns-clause-value : goal.returns-clause-value
returns-clause-value c = rw (← c.self.view_is) (set_is c.self.inside.items.items c.args.index c.index_mut-input.result.now c.args.witness (rw c.self.view_is c.requires) c.index_mut-input.ensures.value)
