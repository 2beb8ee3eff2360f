use Rattle.std.proofs.Common.{◌≡◌, Some, sym, ap, subst, ◌∙◌}
use Rattle.std.specs.Prelude.{slice_get}
use Rattle.keys.specs.Rights.{MaySign}
use Rattle.terms.specs.declared.agreement.Party.{Party}
use Rattle.terms.specs.Agreement.{party}
use Rattle.channel.specs.Rights.{rights_of}
use Rattle.publish.specs.declared.recorded.Recorded.{Recorded}
use Rattle.publish.specs.Published.{signed_transaction}
use Rattle.publish.proofs.Kept.{may_sign_funding}
use Rattle.publish.proofs.Rights.{answered}
use Rattle.publish.proofs.publishing.signed.Goals as goal

pub returns : goal.returns
returns c =
    let s = c.args.channel.now in
    let state = c.args.state.now in
    let found = ap (λ cs. slice_get cs c.args.number) c.own_commitments-numbered.ensures.commitments ∙ c.requires in
    let owner = (c.own_commitments-numbered.ensures.numbered.each c.args.number state found).owner in
    let own : party s.held.side s.held.terms ≡ party state.owner c.terms.result.now = ap (λ d. party d s.held.terms) (sym owner) ∙ ap (party state.owner) (sym c.terms.ensures) in
    let right = subst (λ (p : Party). MaySign c.signer.result.now p.bases.funding.bytes) own
    ((c.signer.ensures.rights _).1 (may_sign_funding s.held.terms s.held.side (rights_of s) c.signer.ensures.bases)) in
    answered c.signed_by_both.result _ _ _ right
    (ap (λ t. Some (signed_transaction t c.in_ok-recorded.recorded.commitment)) c.terms.ensures ∙ ap (λ (r : Recorded). Some (signed_transaction s.held.terms r.commitment)) c.in_ok-recorded.ensures.value)
    c.signed_by_both.ensures
