use Rattle.std.proofs.Common.{◌∙◌, ap, length}
use Rattle.updates.specs.Stages.{Stages, by_receiver, by_sender}
use Rattle.updates.proofs.Ledgers.{ledger_signature}
use Rattle.updates.proofs.ledger.Ledger.receive_signature.Goals as goal

pub invariant_of-self : goal.invariant_of-self
invariant_of-self c =
    let added = c.known-offered.ensures.count ∙ ap (λ (s : Stages). length s.known) (c.by_receiver.ensures ∙ ap by_receiver c.to_receiver.ensures) in
    let removed = c.settled-settled.ensures.count ∙ ap (λ (s : Stages). length s.settled) (c.by_sender.ensures ∙ ap by_sender c.to_sender.ensures) in
    rw (c.by_sender.ensures, c.to_sender.ensures, c.by_receiver.ensures, c.to_receiver.ensures)
    (ledger_signature _ _ _ _ _ _ c.self.invariant added removed c.settle.ensures.offered c.settle.ensures.fulfilled c.settle.ensures.htlcs c.settle.ensures.bound)
