use Rattle.desk.specs.Histories.{GoesOn}
use Rattle.desk.specs.Seats.{last_in, HasSameCalls}
use Rattle.running.proofs.acts.ask_signature.Given as goal

abbrev pub invariant-loop : goal.invariant-loop
invariant-loop g l = record {
  next : (goal.iterator-loop g).can_next l.iterator' × (goal.iterator-loop g).is_finite l.iterator';
  seat : HasSameCalls l.side.desk l.initial.seat l.seat;
  since : GoesOn (last_in l.initial.seat) (last_in l.seat);
}
