use Rattle.node.specs.Ready.{IsReady}
use Rattle.node.proofs.Turns.{HasWorked}
use Rattle.node.proofs.workers.worker.Given as goal

abbrev pub invariant-loop : goal.invariant-loop
invariant-loop g l = record {
  next : (goal.iterator-loop g).can_next l.iterator' × (goal.iterator-loop g).is_finite l.iterator';
  ready : IsReady l.shared l.taker l.hands;
  worked : HasWorked l.shared.payments.now l.initial.hands l.hands l.jobs;
}
