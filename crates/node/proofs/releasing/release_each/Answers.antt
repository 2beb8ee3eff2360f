use Rattle.std.proofs.Common.{arith, [], refl}
use Rattle.desk.specs.Seats.{number_in, calls_in}
use Rattle.node.proofs.Same.{same, still}
use Rattle.node.specs.Tasks.{task_for}
use Rattle.node.proofs.Adding.{adds_nothing, each_more, each_done}
use Rattle.node.proofs.releasing.release_each.Goals as goal

pub loop-index-init : goal.loop-index-init
loop-index-init g c = record { seat = same c.args.shared.now.desk.now c.args.seat.now c.requires; calls = adds_nothing (number_in c.args.seat.now) [] (calls_in c.args.seat.now) (calls_in c.args.seat.now) refl }

pub loop-index-preserved : goal.loop-index-preserved
loop-index-preserved g c =
    let kept = c.loop-index.invariant in
    record {
      seat = still c.args.shared.now.desk.now c.args.seat.now c.loop-index.seat c.release.new.seat kept.seat c.release.ensures.seat;
      calls = each_more (task_for c.args.shared.now.payments.now) (number_in c.args.seat.now) (number_in c.loop-index.seat) c.args.due.now.items c.loop-index.index c.index.result.now (calls_in c.args.seat.now) (calls_in c.loop-index.seat)
          (calls_in c.release.new.seat) (omega arith) c.index.ensures kept.seat.number kept.calls c.release.ensures.calls;
    }

pub returns-clause-calls : goal.returns-clause-calls
returns-clause-calls g c =
    each_done (task_for c.args.shared.now.payments.now) (number_in c.args.seat.now) c.args.due.now.items c.loop-index.index (calls_in c.args.seat.now) (calls_in c.loop-index.seat) (omega arith) c.loop-index.invariant.calls
