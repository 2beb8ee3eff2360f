use Rattle.std.proofs.Common.{subst, sym, None, ◌≡◌}
use Rattle.updates.specs.Refusals.{first_refusal}
use Rattle.updates.specs.Steady.{Held, own_tests}
use Rattle.updates.proofs.Ledgers.{ledger_made, offered_few}
use Rattle.updates.proofs.ledger.Ledger.make.Goals as goal

pub add_update-requires : goal.add_update-requires
add_update-requires c = offered_few _ _ _ c.self.invariant.own_kept

pub invariant_of-self-2 : goal.invariant_of-self-2
invariant_of-self-2 c =
    let P : Held → Type 0 = λ h. first_refusal (own_tests h c.args.update) ≡ None in
    let e = subst P (sym c.self.view_is) c.in_ok-check_own.ensures in
    rw c.in_ok-add_update.ensures.list (ledger_made _ _ _ _ _ c.args.update c.self.invariant e c.in_ok-add_update.ensures.htlcs c.in_ok-add_update.ensures.peers)
