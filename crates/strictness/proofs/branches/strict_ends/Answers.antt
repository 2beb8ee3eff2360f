use Rattle.strictness.proofs.Unspendable.{promised}
use Rattle.strictness.proofs.branches.strict_ends.Goals as goal

pub returns : goal.returns
returns c = promised c.all_ends.result c.args.ops.now c.all_ends.ensures
