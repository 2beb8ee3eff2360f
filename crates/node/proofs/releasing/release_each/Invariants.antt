use Rattle.std.proofs.Common.{map, take}
use Rattle.desk.specs.Seats.{IsSameSeat, number_in, calls_in}
use Rattle.node.specs.Tasks.{task_for}
use Rattle.node.specs.Entering.{Adds}
use Rattle.node.proofs.releasing.release_each.Given as goal

abbrev pub invariant-loop-index : goal.invariant-loop-index
invariant-loop-index g l = record {
  seat : IsSameSeat l.shared.desk.now l.initial.seat l.seat;
  calls : Adds (number_in l.initial.seat) (map (task_for l.shared.payments.now) (take l.index l.due.items)) (calls_in l.initial.seat) (calls_in l.seat);
}
