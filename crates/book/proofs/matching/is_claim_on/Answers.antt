use Rattle.std.proofs.Common.{sym, ap, ◌∙◌}
use Rattle.std.specs.Prelude.{is_ok}
use Rattle.penalty.specs.Sets.{claimed_by}
use Rattle.book.proofs.Sets.{judged, claim_is}
use Rattle.book.proofs.matching.is_claim_on.Goals as goal

pub returns-clause-value : goal.returns-clause-value
returns-clause-value c = c.is_alike.ensures ∙ sym (judged c.args.kept.now c.args.claim.now c.keeps.ensures c.keeps-2.ensures (ap is_ok c.path.ensures.value))

pub returns-clause-exact : goal.returns-clause-exact
returns-clause-exact c = λ is_open yes.
    claim_is (claimed_by c.args.kept.now) c.args.claim.now is_open c.keeps.ensures c.keeps-2.ensures
    (judged c.args.kept.now c.args.claim.now c.keeps.ensures c.keeps-2.ensures (ap is_ok c.path.ensures.value) ∙ sym c.is_alike.ensures ∙ yes)
