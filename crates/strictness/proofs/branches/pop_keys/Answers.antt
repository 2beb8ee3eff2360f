use Rattle.std.proofs.Common.{ap, ◌∙◌}
use Rattle.strictness.specs.Words.{words}
use Rattle.strictness.specs.Turns.{is_no_key}
use Rattle.strictness.proofs.Steps.{keys_more, dropped_more}
use Rattle.strictness.proofs.branches.pop_keys.Goals as goal

pub loop-step-preserved : goal.loop-step-preserved
loop-step-preserved c = record {
  bad = keys_more _ c.loop-step.first c.bad_key.result c.or-first.result (words c.loop-step.stack) (words c.pop-key.new.stack) c.args.count c.loop-step._step c.loop-step-test.true c.loop-step.invariant.bad (c.bad_key.ensures ∙ ap is_no_key c.pop-key.ensures.top) c.or-first.ensures c.pop-key.ensures.rest;
  rest = dropped_more _ (words c.loop-step.stack) (words c.pop-key.new.stack) c.args.count c.loop-step._step c.loop-step-test.true c.loop-step.invariant.rest c.pop-key.ensures.rest;
}
