use Rattle.std.proofs.Common.{drop, ◌+◌}
use Rattle.strictness.specs.Words.{words}
use Rattle.strictness.proofs.Steps.{lost_on, skipped_on, low_mode}
use Rattle.strictness.proofs.branches.go_on.Goals as goal

pub returns-in-Lost-clause-exact : goal.returns-in-Lost-clause-exact
returns-in-Lost-clause-exact c = lost_on (drop c.args.index c.args.ops.now) (drop (c.args.index + 1) c.args.ops.now) c.args.mode (words c.args.stack.now) _ _ c.in-Lost.is

pub returns-in-Skipping-clause-exact : goal.returns-in-Skipping-clause-exact
returns-in-Skipping-clause-exact c = skipped_on c.args.ops.now c.args.index c.index-ops-index.result c.args.mode c.skipped.result c.in-Skipping.depth c.in-Skipping.to_else (words c.args.stack.now) _ _ c.requires.here c.index-ops-index.is c.in-Skipping.is c.skipped.ensures.mode

pub returns-in_ok-turn-in-Running-clause-depth : goal.returns-in_ok-turn-in-Running-clause-depth
returns-in_ok-turn-in-Running-clause-depth c = low_mode c.take_turn.result c.args.index c.take_turn.ensures.depth
