use Rattle.std.proofs.Common.{drop, ◌+◌}
use Rattle.strictness.specs.Words.{words}
use Rattle.strictness.proofs.Steps.{lost_from}
use Rattle.strictness.proofs.branches.take_turn.Goals as goal

pub returns-in-Lost-clause-exact : goal.returns-in-Lost-clause-exact
returns-in-Lost-clause-exact c = lost_from (drop (c.args.index + 1) c.args.ops.now) c.args.turn (words c.args.stack.now) _ _ c.in-Lost.is
