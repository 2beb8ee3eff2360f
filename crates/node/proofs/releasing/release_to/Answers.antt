use Rattle.std.proofs.Common.{[], ◌∷◌, Some}
use Rattle.desk.specs.Seats.{number_in, calls_in}
use Rattle.node.specs.Tasks.{releasing}
use Rattle.node.proofs.Adding.{adds_from}
use Rattle.node.proofs.releasing.release_to.Goals as goal

pub returns-in-Ok-clause-calls : goal.returns-in-Ok-clause-calls
returns-in-Ok-clause-calls g c =
    let kept = c.loop.invariant in
    adds_from (number_in c.loop.seat) (number_in c.args.seat.now) (releasing (Some c.args.payment.now) c.args.due.now ∷ []) (calls_in c.args.seat.now) (calls_in c.loop.seat) (calls_in c.try_to_release.new.seat) kept.seat.number kept.calls
    c.try_to_release.ensures.calls

pub returns-in-Err-clause-calls : goal.returns-in-Err-clause-calls
returns-in-Err-clause-calls g c =
    let kept = c.loop.invariant in
    adds_from (number_in c.loop.seat) (number_in c.args.seat.now) (releasing (Some c.args.payment.now) c.args.due.now ∷ []) (calls_in c.args.seat.now) (calls_in c.loop.seat) (calls_in c.try_to_release.new.seat) kept.seat.number kept.calls
    c.try_to_release.ensures.calls
