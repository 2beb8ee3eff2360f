use Rattle.std.proofs.Common.{sym, ap, subst, ◌∙◌}
use Rattle.std.specs.Prelude.{slice_get}
use Rattle.keys.specs.Rights.{MaySign}
use Rattle.publish.specs.declared.recorded.Recorded.{Recorded}
use Rattle.publish.specs.Published.{signed_htlc_of}
use Rattle.publish.proofs.Kept.{may_sign_htlc}
use Rattle.publish.proofs.Rights.{answered}
use Rattle.publish.proofs.publishing.signed_htlc.Goals as goal

pub returns : goal.returns
returns c =
    let s = c.args.channel.now in
    let n = c.args.number in
    let state = c.args.state.now in
    let found = ap (λ cs. slice_get cs n) c.own_commitments-numbered.ensures.commitments ∙ c.requires in
    let owner = (c.own_commitments-numbered.ensures.numbered.each n state found).owner in
    let same = c.in_ok-recorded.ensures.value in
    let right = subst (λ (r : Recorded). MaySign c.signer.result.now r.commitment.keys.local_htlc) (sym same)
    ((c.signer.ensures.rights _).1 (may_sign_htlc s n state c.signer.ensures.bases owner c.requires)) in
    answered c.htlc_tx_by_both.result _ _ _ right (ap (λ (r : Recorded). signed_htlc_of r.commitment c.args.k c.args.preimages.now) same) c.htlc_tx_by_both.ensures
