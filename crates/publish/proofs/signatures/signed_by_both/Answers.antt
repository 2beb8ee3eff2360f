use Rattle.std.proofs.Common.{◌≡◌, true, false, Some, None, ap, sym, subst, refl}
use Rattle.keys.specs.Rights.{MaySign}
use Rattle.terms.specs.declared.agreement.Party.{Party}
use Rattle.terms.specs.Agreement.{party}
use Rattle.publish.specs.Published.{signed_transaction}
use Rattle.publish.proofs.Rights.{signed_one, no_right}
use Rattle.publish.proofs.signatures.signed_by_both.Goals as goal

pub returns-in_ok-commitment_by_both-in-Ok : goal.returns-in_ok-commitment_by_both-in-Ok
returns-in_ok-commitment_by_both-in-Ok c =
    let may : Party → Type 0 = λ p. MaySign c.args.signer.now p.bases.funding.bytes in
    signed_one (may (party c.args.owner c.args.terms.now)) (Some (signed_transaction c.args.terms.now c.args.commitment.now)) (Some c.in_ok-commitment_by_both-in-Ok.field-0)
    (subst may c.party.ensures (c.in-Ok.ensures.ok.0 refl)) (ap Some c.in_ok-commitment_by_both-in-Ok.ensures)

pub returns-in-Err : goal.returns-in-Err
returns-in-Err c =
    let may : Party → Type 0 = λ p. MaySign c.args.signer.now p.bases.funding.bytes in
    no_right (may (party c.args.owner c.args.terms.now)) (Some (signed_transaction c.args.terms.now c.args.commitment.now)) None
    (λ m. let h : false ≡ true = c.in-Err.ensures.ok.1 (subst may (sym c.party.ensures) m) in cc) refl
