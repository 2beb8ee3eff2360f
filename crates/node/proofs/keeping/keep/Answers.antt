use Rattle.std.proofs.Common.{[], ◌∷◌}
use Rattle.desk.specs.Seats.{number_in, calls_in}
use Rattle.node.specs.Tasks.{keeping}
use Rattle.node.proofs.Adding.{adds_from}
use Rattle.node.proofs.keeping.keep.Goals as goal

pub returns-in_default-clause-calls : goal.returns-in_default-clause-calls
returns-in_default-clause-calls g c =
    let kept = c.loop.invariant in
    adds_from (number_in c.loop.seat) (number_in c.args.seat.now) (keeping c.args.channel c.args.number ∷ []) (calls_in c.args.seat.now) (calls_in c.loop.seat) (calls_in c.try_to_keep.new.seat) kept.seat.number kept.calls c.try_to_keep.ensures.calls
