use Rattle.std.proofs.Common.{◌++◌, ◌∷◌, [], sym, subst, arith, rules}
use Rattle.world.specs.Theorem.{IsPlay}
use Rattle.world.proofs.Plays.{not_begun, play_next, all_played, pushed}
use Rattle.world.proofs.worlds.World.play.Goals as goal

pub loop-event-init : goal.loop-event-init
loop-event-init c = record {
  count = search rules;
  room = search rules;
  played = subst (λ os. IsPlay c.args.self.now [] os c.args.self.now) (sym c.in_ok-outcomes.ensures.items) (not_begun c.args.self.now c.holds.ensures);
}

pub loop-event-preserved : goal.loop-event-preserved
loop-event-preserved c =
    let l = c.loop-event in
    let outcome = c.step-outcome.result in
    record {
      count = search rules;
      room = search rules;
      played = play_next c.args.self.now l.self c.step-outcome.new.self c.args.events.now l.outcomes.items c.push.new.self.items l.event-index _ outcome c.loop-event-test.true l.invariant.played
          c.step-outcome.ensures c.holds-in-loop-event.ensures (pushed c.push.result c.unwrap.result c.push.new.self.items (l.outcomes.items ++ outcome ∷ []) l.outcomes.items c.unwrap.ensures c.push.ensures.items);
    }

pub returns : goal.returns
returns c = all_played c.args.self.now c.loop-event.self c.args.events.now c.loop-event.outcomes.items c.loop-event.event-index (omega arith) c.loop-event.invariant.played
