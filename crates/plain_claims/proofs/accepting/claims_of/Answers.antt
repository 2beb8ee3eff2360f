use Rattle.std.proofs.Common.{rules, ◌≡◌, ◌∷◌, [], List, Some, subst, sym, ap, ◌∙◌, arith}
use Rattle.std.proofs.lemmas.Result.{err_from_is_err_and}
use Rattle.std.specs.Vec.Iter.{into_iter_items}
use Rattle.std.proofs.lemmas.List.{nil_from_length}
use Rattle.claim.specs.Claims.{ClaimParts}
use Rattle.plain_claims.proofs.Taking.{SoFar, one_taken, one_refused, all_taken}
use Rattle.plain_claims.proofs.accepting.claims_of.Goals as goal

pub loop-plain-preserved : goal.loop-plain-preserved
loop-plain-preserved c =
    let e : into_iter_items c.loop-plain.plain-iterator ≡ c.in-Some.plain ∷ into_iter_items c.next.new.self = search rules in
    let before = subst (SoFar c.args.plains c.loop-plain.claims.items) e c.loop-plain.invariant in
    let after = one_taken c.args.plains (into_iter_items c.next.new.self) c.loop-plain.claims.items c.in-Some.plain c.in_ok-claim_of.field-0 before c.in_ok-claim_of.ensures in
    subst (λ (cs : List ClaimParts). SoFar c.args.plains cs (into_iter_items c.next.new.self)) (sym c.in_ok-push.ensures.items) after

pub returns-in_err-claim_of : goal.returns-in_err-claim_of
returns-in_err-claim_of c =
    let e : into_iter_items c.loop-plain.plain-iterator ≡ c.in-Some.plain ∷ into_iter_items c.next.new.self = search rules in
    let p = err_from_is_err_and c.from_residual.result c.from_residual.ensures.1 in
    rw (p.1, p.2) (one_refused c.args.plains (into_iter_items c.next.new.self) c.loop-plain.claims.items c.in-Some.plain c.in_err-claim_of.field-0.0 (subst (SoFar c.args.plains c.loop-plain.claims.items) e c.loop-plain.invariant) c.in_err-claim_of.ensures)

pub returns : goal.returns
returns c =
    let e : into_iter_items c.loop-plain.plain-iterator ≡ [] = nil_from_length (into_iter_items c.loop-plain.plain-iterator) (omega (arith, c.in-None.ensures.steps.0)) in
    let whole = all_taken c.args.plains c.loop-plain.claims.items (subst (SoFar c.args.plains c.loop-plain.claims.items) e c.loop-plain.invariant) in
    whole ∙ ap Some (sym (c.from_vec.ensures ∙ c.shrink_to_fit.ensures.items))
