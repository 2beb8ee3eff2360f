use Rattle.std.proofs.Common.{ap, ◌∙◌}
use Rattle.book.specs.Penalties.{are_claims_on}
use Rattle.book.proofs.Judged.{same_penalties}
use Rattle.book.proofs.judging.are_penalties.Goals as goal

pub returns : goal.returns
returns c =
    c.is_set.ensures.value
    ∙ ap (λ os. are_claims_on os c.args.claims.now) (same_penalties c.args.terms.now c.args.commitment.now.view c.args.owner c.args.commitment.now.number c.args.secret _ c.in_ok-set.ensures)
