use Rattle.node.proofs.Turns.{begun, finished_one, stopped_at, spent_before, ended_dry}
use Rattle.node.proofs.workers.worker.Goals as goal

pub loop-init : goal.loop-init
loop-init g c = record { next = (tt, tt); ready = c.requires; worked = begun c.args.shared.now.payments.now c.args.hands.now }

pub returns-in_default-clause-work : goal.returns-in_default-clause-work
returns-in_default-clause-work g c =
    let taken = c.in_default.ensures.taken in
    ended_dry c.args.shared.now.payments.now c.args.hands.now c.loop.hands c.take.new.pass c.loop.jobs c.loop.invariant.worked taken.0 taken.1

pub loop-preserved : goal.loop-preserved
loop-preserved g c = record {
  next = (tt, tt);
  ready = c.take_turn-turn.ensures.ready;
  worked = finished_one c.args.shared.now.payments.now c.args.hands.now c.loop.hands c.take.new.pass c.loop.jobs c.in-Some-take.job c.take_turn-turn.new.hands c.loop.invariant.worked c.in-Some-take.ensures.taken c.in-Finished.ensures.turn;
}

pub returns-in-Stopped-clause-work : goal.returns-in-Stopped-clause-work
returns-in-Stopped-clause-work g c =
    stopped_at c.args.shared.now.payments.now c.args.hands.now c.loop.hands c.take.new.pass c.loop.jobs c.in-Some-take.job c.take_turn-turn.new.hands c.in-Stopped.ticket c.loop.invariant.worked c.in-Some-take.ensures.taken c.in-Stopped.ensures.turn

pub returns-in-Spent-clause-work : goal.returns-in-Spent-clause-work
returns-in-Spent-clause-work g c =
    spent_before c.args.shared.now.payments.now c.args.hands.now c.loop.hands c.take.new.pass c.loop.jobs c.in-Some-take.job c.take_turn-turn.new.hands c.loop.invariant.worked c.in-Some-take.ensures.taken c.in-Spent.ensures.turn
