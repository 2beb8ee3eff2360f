use Rattle.std.proofs.Common.{All, map}
use Rattle.std.specs.Vec.Iter.{into_iter_items}
use Rattle.running.specs.Threads.{HasServed, seat_in}
use Rattle.running.proofs.Homing.{Taking}
use Rattle.running.proofs.returned.absorb_side_seats.Given as goal

abbrev pub invariant-loop-served : goal.invariant-loop-served
invariant-loop-served l = record {
  served : All (HasServed l.side) (into_iter_items l.served-iterator);
  closing_seat : Taking l.side.desk l.initial.closing_seat (map seat_in l.fn.side_threads.items) (map seat_in (into_iter_items l.served-iterator)) l.closing_seat;
}
