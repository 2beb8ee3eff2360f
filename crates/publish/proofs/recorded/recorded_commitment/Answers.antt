use Rattle.std.proofs.Common.{sym, ap, subst, ◌∙◌}
use Rattle.std.specs.Prelude.{slice_get}
use Rattle.terms.specs.declared.agreement.Terms.{Terms}
use Rattle.penalty.specs.Paying.{CanPay}
use Rattle.publish.proofs.Kept.{state_pays}
use Rattle.publish.proofs.recorded.recorded_commitment.Goals as goal

pub payable_commitment-requires : goal.payable_commitment-requires
payable_commitment-requires c =
    let s = c.args.channel.now in
    let n = c.args.number in
    let state = c.args.state.now in
    let cs = c.own_commitments-numbered.result.now in
    let found = ap (λ xs. slice_get xs n) c.own_commitments-numbered.ensures.commitments ∙ c.requires in
    subst (λ (t : Terms). CanPay t state.view) (sym c.terms.ensures) (state_pays s.held.terms s.held.side _ n cs state c.own_commitments-numbered.ensures.numbered found)
