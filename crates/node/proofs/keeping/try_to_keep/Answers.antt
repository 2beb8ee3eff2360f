use Rattle.std.proofs.Common.{[], ◌∷◌}
use Rattle.desk.specs.Seats.{number_in, calls_in}
use Rattle.node.specs.Tasks.{keeping}
use Rattle.node.proofs.Adding.{adds_nothing, adds_from, err_from}
use Rattle.node.proofs.keeping.try_to_keep.Goals as goal

pub returns-clause-calls : goal.returns-clause-calls
returns-clause-calls g c =
    let same = c.revoked.ensures.seat in
    adds_from (number_in c.revoked.new.seat) (number_in c.args.seat.now) (keeping c.args.channel c.args.number ∷ []) (calls_in c.args.seat.now) (calls_in c.revoked.new.seat) (calls_in c.keep_set_of.new.seat) same.number same.calls
    c.keep_set_of.ensures.calls

pub returns-clause-err : goal.returns-clause-err
returns-clause-err g c =
    err_from c.keep_set_of.result (calls_in c.args.seat.now) (calls_in c.revoked.new.seat) (calls_in c.keep_set_of.new.seat) c.revoked.ensures.seat.calls c.keep_set_of.ensures.err

pub returns-in_err-state-clause-calls : goal.returns-in_err-state-clause-calls
returns-in_err-state-clause-calls g c = adds_nothing (number_in c.args.seat.now) (keeping c.args.channel c.args.number ∷ []) (calls_in c.args.seat.now) (calls_in c.revoked.new.seat) c.revoked.ensures.seat.calls
