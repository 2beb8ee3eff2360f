use Rattle.updates.proofs.Committed.{ledger_committed}
use Rattle.updates.proofs.ledger.Ledger.drop_uncommitted.Goals as goal

pub invariant_of-self : goal.invariant_of-self
invariant_of-self c =
    rw (c.forget.ensures, c.forget-2.ensures)
    (ledger_committed _ _ _ _ _ _ _ c.self.invariant c.with_receiver-own.ensures.count c.with_receiver-theirs.ensures.count c.forget-3.ensures.htlcs c.forget-3.ensures.offered c.forget-3.ensures.fulfilled
    c.forget-4.ensures.htlcs c.forget-4.ensures.offered c.forget-4.ensures.fulfilled)
