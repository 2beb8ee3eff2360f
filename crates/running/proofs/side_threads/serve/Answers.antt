use Rattle.std.proofs.Common.{subst}
use Rattle.running.specs.Threads.{IsSideThread}
use Rattle.running.proofs.Serving.{worked}
use Rattle.running.proofs.side_threads.serve.Goals as goal

pub returns-in-Works : goal.returns-in-Works
returns-in-Works g c =
    let unused = (subst (IsSideThread c.args.side.now c.args.shared.now.board) c.in-Works.is c.requires).1 in
    worked c.args.side.now c.in-Works.worker.hands c.work-hands.result.1 c.work-hands.result.0 unused c.work-hands.ensures.seat c.work-hands.ensures.work
