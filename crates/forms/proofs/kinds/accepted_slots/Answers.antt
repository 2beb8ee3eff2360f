use Rattle.std.proofs.lemmas.Result.{IfOk-weaker}
use Rattle.forms.proofs.Accepted.{accepted, refused}
use Rattle.forms.proofs.kinds.accepted_slots.Goals as goal

pub returns-clause-accepted : goal.returns-clause-accepted
returns-clause-accepted c = IfOk-weaker c.fillings.result _ _ (λ v e. accepted c.args.kind.now v.items e) c.fillings.ensures

pub returns-clause-refused : goal.returns-clause-refused
returns-clause-refused c = IfOk-weaker c.fillings.result _ _ (λ v e. refused c.args.kind.now v.items e) c.fillings.ensures
