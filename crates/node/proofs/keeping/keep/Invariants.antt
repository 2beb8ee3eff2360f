use Rattle.std.proofs.Common.{◌≡◌}
use Rattle.desk.specs.Seats.{IsSameSeat, calls_in}
use Rattle.node.proofs.keeping.keep.Given as goal

abbrev pub invariant-loop : goal.invariant-loop
invariant-loop g l = record {
  next : (goal.iterator-loop g).can_next l.iterator' × (goal.iterator-loop g).is_finite l.iterator';
  seat : IsSameSeat l.desk l.initial.seat l.seat;
  calls : calls_in l.seat ≡ calls_in l.initial.seat;
}
