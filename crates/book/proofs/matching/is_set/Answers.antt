use Rattle.std.proofs.Common.{sym, subst, ◌∙◌}
use Rattle.penalty.specs.Claimable.{claimable_of}
use Rattle.penalty.specs.Sets.{AreClaimsOn}
use Rattle.book.proofs.Alike.{outputs_of, of_set}
use Rattle.book.proofs.Sets.{set_is_open, set_is_found}
use Rattle.book.proofs.matching.is_set.Goals as goal

pub returns-clause-value : goal.returns-clause-value
returns-clause-value c =
    c.are_claims_on.ensures.value
    ∙ of_set (claimable_of c.args.set.now.state) c.claims-kept.result.now c.args.claims.now (subst (AreClaimsOn (claimable_of c.args.set.now.state)) (sym c.claims-kept.ensures.value) c.claims-kept.ensures.full)

pub returns-clause-exact : goal.returns-clause-exact
returns-clause-exact c =
    let os = claimable_of c.args.set.now.state in
    let full = subst (AreClaimsOn os) (sym c.claims-kept.ensures.value) c.claims-kept.ensures.full in (
      λ yes. subst (λ xs. AreClaimsOn xs c.args.claims.now) (outputs_of os c.claims-kept.result.now full) (c.are_claims_on.ensures.exact (set_is_open c.args.set.now.state c.claims-kept.result.now full) yes),
      λ h. c.are_claims_on.ensures.value ∙ of_set os c.claims-kept.result.now c.args.claims.now full ∙ set_is_found c.args.set.now.state c.args.claims.now h,
    )
