use Rattle.std.proofs.Common.{◌∙◌, ap, length}
use Rattle.updates.specs.Stages.{Stages}
use Rattle.updates.proofs.Ledgers.{ledger_revocation}
use Rattle.updates.proofs.ledger.Ledger.receive_revocation.Goals as goal

pub invariant_of-self : goal.invariant_of-self
invariant_of-self c =
    let added = c.known-offered.ensures.count ∙ ap (λ (s : Stages). length s.known) c.by_receiver.ensures in
    let removed = c.settled-settled.ensures.count ∙ ap (λ (s : Stages). length s.settled) c.by_sender.ensures in
    rw (c.by_receiver.ensures, c.by_sender.ensures)
    (ledger_revocation _ _ _ _ _ _ c.self.invariant added removed c.settle.ensures.offered c.settle.ensures.fulfilled c.settle.ensures.htlcs c.settle.ensures.bound)
