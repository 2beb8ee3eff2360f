use Rattle.due_laws.proofs.Passing.{fillings_pass}
use Rattle.due_laws.proofs.laws.fillings_pass.Goals as goal

pub returns : goal.returns
returns c = fillings_pass c.accepted_claims_spend.ensures.spends c.accepted_claims_spend.ensures.timed c.fillings_fit.ensures c.dues_are_fillable.ensures
