use Rattle.updates.proofs.Ledgers.{ledger_signed}
use Rattle.updates.proofs.ledger.Ledger.sign.Goals as goal

pub invariant_of-self : goal.invariant_of-self
invariant_of-self c = rw (c.to_receiver.ensures, c.to_sender.ensures) (ledger_signed _ _ _ c.self.invariant)
