use Rattle.std.proofs.Common.{◌≤◌, List, Bor, map, length, sym, ap, ◌∙◌, subst}
use Rattle.std.proofs.lemmas.List.{length-map}
use Rattle.tx.specs.Parts.{Output}
use Rattle.tx.specs.declared.limits.TheConstants.{MAX_INPUTS, MAX_OUTPUTS}
use Rattle.claim.specs.Claims.{ClaimParts}
use Rattle.book.proofs.Released.{filled_as, given_as}
use Rattle.book.proofs.releasing.filled.Goals as goal

pub returns-clause-by_signer : goal.returns-clause-by_signer
returns-clause-by_signer c =
    given_as c.args.batch.now c.args.signer.now c.fill.result _ _ _ (ap (map (λ (x : Bor ClaimParts). x.now)) c.deref.ensures.value ∙ c.in_ok-claims.ensures ∙ c.values-2.ensures) (c.in_ok-outputs.ensures ∙ c.values.ensures) c.values-3.ensures
    c.fill.ensures

pub returns-clause-tested : goal.returns-clause-tested
returns-clause-tested c =
    filled_as c.args.batch.now c.args.signer.now c.fill.result
    (given_as c.args.batch.now c.args.signer.now c.fill.result _ _ _ (ap (map (λ (x : Bor ClaimParts). x.now)) c.deref.ensures.value ∙ c.in_ok-claims.ensures ∙ c.values-2.ensures) (c.in_ok-outputs.ensures ∙ c.values.ensures) c.values-3.ensures
    c.fill.ensures)

pub fill-requires-clause-some : goal.fill-requires-clause-some
fill-requires-clause-some c =
    let refs = c.deref.result.now in
    let same = ap length (ap (map (λ (x : Bor ClaimParts). x.now)) c.deref.ensures.value ∙ c.in_ok-claims.ensures ∙ c.values-2.ensures) in
    subst (λ n. 1 ≤ n) (sym same ∙ length-map refs (λ (x : Bor ClaimParts). x.now)) c.args.batch.now.some

pub fill-requires-clause-inputs : goal.fill-requires-clause-inputs
fill-requires-clause-inputs c =
    let refs = c.deref.result.now in
    let same = ap length (ap (map (λ (x : Bor ClaimParts). x.now)) c.deref.ensures.value ∙ c.in_ok-claims.ensures ∙ c.values-2.ensures) in
    subst (λ n. n ≤ MAX_INPUTS) (sym same ∙ length-map refs (λ (x : Bor ClaimParts). x.now)) c.args.batch.now.inputs

pub fill-requires-clause-outputs : goal.fill-requires-clause-outputs
fill-requires-clause-outputs c = subst (λ (os : List Output). length os ≤ MAX_OUTPUTS) (sym (c.in_ok-outputs.ensures ∙ c.values.ensures)) c.args.batch.now.given
