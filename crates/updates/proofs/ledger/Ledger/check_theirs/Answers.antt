use Rattle.std.proofs.Common.{List, subst, None, Some, ◌≡◌}
use Rattle.std.specs.Prelude.{MatchResult}
use Rattle.updates.specs.Refusals.{Test, first_refusal, IsRefusal}
use Rattle.updates.specs.Steady.{Held, their_tests}
use Rattle.updates.proofs.Accepting.{answered}
use Rattle.updates.proofs.Ledgers.{ledger_peer_tests}
use Rattle.updates.proofs.ledger.Ledger.check_theirs.Goals as goal

pub returns : goal.returns
returns c =
    let h : Held = record { terms = c.self.inside.terms; side = c.self.inside.side; own = c.self.inside.own; theirs = c.self.inside.theirs } in
    let e = ledger_peer_tests h c.self.inside.own_htlcs c.self.inside.their_htlcs c.args.update.now c.settled-settled.result.count c.known-known.result.count c.self.invariant c.settled-settled.ensures.count c.known-known.ensures.count in
    let P : List Test → Type 0 = λ t. MatchResult c.check_update.result (λ x. first_refusal t ≡ None) (λ r. first_refusal t ≡ Some r) in
    let Q : Held → Type 0 = λ g. MatchResult c.check_update.result (λ x. first_refusal (their_tests g c.args.update.now) ≡ None) (IsRefusal (first_refusal (their_tests g c.args.update.now))) in
    subst Q c.self.view_is (answered c.check_update.result (first_refusal (their_tests h c.args.update.now)) (subst P e (rw c.other-peer.ensures at c.check_update.ensures)))
