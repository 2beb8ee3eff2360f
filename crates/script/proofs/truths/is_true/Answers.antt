use Rattle.script.proofs.LastByte.{truth_by, true_front, last_apart, last_zero}
use Rattle.script.proofs.truths.is_true.Goals as goal

pub returns-then-has_nonzero : goal.returns-then-has_nonzero
returns-then-has_nonzero c = true_front _ c.in-Some.last.now _ (truth_by _ _ c.in-Some.last.now _ c.in-Some.ensures.cases.0 c.has_nonzero.ensures) c.if-has_nonzero.true

pub returns-then-last-ne0 : goal.returns-then-last-ne0
returns-then-last-ne0 c = last_apart _ c.in-Some.last.now _ (truth_by _ _ c.in-Some.last.now _ c.in-Some.ensures.cases.0 c.has_nonzero.ensures) c.if-has_nonzero.false c.if-last-ne0.true

pub returns-else-last-ne0 : goal.returns-else-last-ne0
returns-else-last-ne0 c = last_zero _ c.in-Some.last.now _ (truth_by _ _ c.in-Some.last.now _ c.in-Some.ensures.cases.0 c.has_nonzero.ensures) c.if-has_nonzero.false c.if-last-ne0.false
