use Rattle.std.proofs.Common.{ap, length, arith}
use Rattle.penalty.proofs.states.share_total.Goals as goal

pub overflow_add-result : goal.overflow_add-result
overflow_add-result c = omega (arith, ap length c.values.ensures, c.millisatoshis.ensures.bound, c.requires)

pub returns-clause-bound : goal.returns-clause-bound
returns-clause-bound c = omega (arith, ap length c.values.ensures, c.millisatoshis.ensures.bound, c.requires)
