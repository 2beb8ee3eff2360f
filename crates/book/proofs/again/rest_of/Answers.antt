use Rattle.std.proofs.Common.{◌≡◌, List, ℕ, length, false, true, refl, sym, ap, ◌∙◌, subst}
use Rattle.book.specs.Again.{without_spent}
use Rattle.book.proofs.Remaining.{few, some, too_many, nothing_left}
use Rattle.book.proofs.again.rest_of.Goals as goal

pub returns-then-len-gt-MAX_OUTPUTS-clause-err : goal.returns-then-len-gt-MAX_OUTPUTS-clause-err
returns-then-len-gt-MAX_OUTPUTS-clause-err c = too_many c.args.spent.now c.args.outputs c.args.batch.now c.len.result c.len.ensures c.if-len-gt-MAX_OUTPUTS.true

pub returns-then-is_empty-clause-err : goal.returns-then-is_empty-clause-err
returns-then-is_empty-clause-err c =
    nothing_left c.args.spent.now c.args.outputs c.args.batch.now c.len.result c.values.result.now c.in_ok-claims.claims true c.len.ensures c.if-len-gt-MAX_OUTPUTS.false c.values.ensures c.in_ok-claims.ensures c.if-is_empty.ensures refl

pub returns-clause-ok : goal.returns-clause-ok
returns-clause-ok c = record {
  claims_is = c.in_ok-claims.ensures ∙ ap (without_spent c.args.spent.now) c.values.ensures;
  outputs_is = refl;
  preimages_is = c.in_ok-preimages.ensures;
}

pub invariant_of-result-clause-some : goal.invariant_of-result-clause-some
invariant_of-result-clause-some c = some (length c.in_ok-claims.claims) false c.if-is_empty.ensures refl

pub invariant_of-result-clause-inputs : goal.invariant_of-result-clause-inputs
invariant_of-result-clause-inputs c = few c.args.spent.now c.args.batch.now c.values.result.now c.in_ok-claims.claims c.values.ensures c.in_ok-claims.ensures
