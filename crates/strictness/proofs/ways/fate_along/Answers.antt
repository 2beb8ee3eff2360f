use Rattle.strictness.proofs.ByWay.{promised_by}
use Rattle.strictness.proofs.ways.fate_along.Goals as goal

pub returns-clause-nobody : goal.returns-clause-nobody
returns-clause-nobody c = promised_by c.followed.result c.args.choices.now c.args.ops.now c.followed.ensures
