use Rattle.std.proofs.Common.{ap, ◌∙◌}
use Rattle.terms.specs.declared.sides.Side.TheVariants.{A, B}
use Rattle.terms.specs.declared.agreement.BaseKeys.{BaseKeys}
use Rattle.terms.specs.Proposals.{agreed_terms}
use Rattle.book_dump.specs.Openings.{own_or_others, bases_at}
use Rattle.book_dump.proofs.openings.terms_of.Goals as goal

pub returns : goal.returns
returns c =
    let o = c.args.plain.now in
    c.agreed.ensures.terms
    ∙ ap (λ (a : BaseKeys). agreed_terms o.funding a c.bases_at-b.result o.terms)
    (c.bases_at-a.ensures ∙ ap (λ (own : BaseKeys). own_or_others o.side A own o.bases) c.bases_of-own.ensures)
    ∙ ap (λ (b : BaseKeys). agreed_terms o.funding (bases_at o.side A o) b o.terms)
    (c.bases_at-b.ensures ∙ ap (λ (own : BaseKeys). own_or_others o.side B own o.bases) c.bases_of-own.ensures)
