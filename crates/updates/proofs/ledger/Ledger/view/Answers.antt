use Rattle.std.proofs.Common.{◌≡◌, ◌∙◌, subst, sym, take}
use Rattle.updates.specs.Shares.{IsPartAt, view_in}
use Rattle.updates.specs.Steady.{Held}
use Rattle.updates.proofs.Sharing.{own_payable, their_payable, ledger_view}
use Rattle.updates.proofs.ledger.Ledger.view.Goals as goal

pub share_at-requires-clause-payable : goal.share_at-requires-clause-payable
share_at-requires-clause-payable c =
    let P : Held → Type 0 = λ h. IsPartAt h.own c.args.own in
    let Q : Held → Type 0 = λ h. IsPartAt h.theirs c.args.theirs in
    rw c.party.ensures (own_payable _ _ _ _ _ c.self.invariant (subst P (sym c.self.view_is) c.requires.own) (subst Q (sym c.self.view_is) c.requires.theirs))

pub share_at-requires-2-clause-payable : goal.share_at-requires-2-clause-payable
share_at-requires-2-clause-payable c =
    let P : Held → Type 0 = λ h. IsPartAt h.own c.args.own in
    let Q : Held → Type 0 = λ h. IsPartAt h.theirs c.args.theirs in
    rw (c.party-2.ensures, c.other.ensures) (their_payable _ _ _ _ _ c.self.invariant (subst P (sym c.self.view_is) c.requires.own) (subst Q (sym c.self.view_is) c.requires.theirs))

pub returns : goal.returns
returns c =
    let P : Held → Type 0 = λ h. IsPartAt h.own c.args.own in
    let Q : Held → Type 0 = λ h. IsPartAt h.theirs c.args.theirs in
    let R : Held → Type 0 = λ h. c.view_from.result ≡ view_in h (take c.args.own.count h.own.known) (take c.args.theirs.count h.theirs.known) in
    let e = ledger_view _ _ _ _ _ c.self.invariant (subst P (sym c.self.view_is) c.requires.own) (subst Q (sym c.self.view_is) c.requires.theirs) in
    subst R c.self.view_is (c.view_from.ensures ∙ rw (c.in_ok-mine.ensures, c.in_ok-others.ensures, c.feerate_per_kw_at-feerate_per_kw.ensures, c.party.ensures, c.party-2.ensures, c.other.ensures) e)
