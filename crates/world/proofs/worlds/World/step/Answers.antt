use Rattle.world.proofs.worlds.World.step.Goals as goal

pub invariant_of-self : goal.invariant_of-self
invariant_of-self c = c.steps_keep.ensures _ _ c.args.event.now c.step-outcome.result c.self.invariant c.step-outcome.ensures c.hold_both.ensures.a c.hold_both.ensures.b c.hold_both.ensures.tested
