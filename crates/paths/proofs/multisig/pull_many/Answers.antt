use Rattle.std.proofs.Common.{◌∙◌, arith}
use Rattle.paths.proofs.RuleLists.{pile_taken, pile_left}
use Rattle.paths.proofs.multisig.pull_many.Goals as goal

pub loop-step-preserved : goal.loop-step-preserved
loop-step-preserved c =
    record {
      taken = pile_taken c.loop-step._step c.args.state.now c.loop-step.state c.pull.result c.loop-step.syms c.push.new.self c.in_ok-push.ensures.pushed c.loop-step.invariant.taken c.loop-step.invariant.left c.pull.ensures.top;
      left = pile_left c.loop-step._step c.args.state.now c.loop-step.state c.pull.new.state c.loop-step.invariant.left c.pull.ensures.left;
      near = record { slots = omega (arith, c.pull.ensures.near.slots, c.loop-step.invariant.near.slots); keys = c.pull.ensures.near.keys ∙ c.loop-step.invariant.near.keys };
    }
