use Rattle.due_laws.proofs.Verdicts.{closers_are_judged}
use Rattle.due_laws.proofs.Counting.{dues_are_counted}
use Rattle.due_laws.proofs.laws.what_is_due_is_counted.Goals as goal

pub returns-clause-judged : goal.returns-clause-judged
returns-clause-judged c = closers_are_judged c.revoked_are_found.ensures.found

pub returns-clause-counted : goal.returns-clause-counted
returns-clause-counted c = dues_are_counted c.counted_are_worth.ensures.due
