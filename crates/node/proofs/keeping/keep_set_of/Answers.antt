use Rattle.std.proofs.Common.{[], ◌∷◌, refl}
use Rattle.book.specs.declared.calls.Call.TheVariants.{Keep}
use Rattle.book.specs.Replies.{kept}
use Rattle.desk.specs.Seats.{number_in, calls_in, last_in}
use Rattle.node.specs.Tasks.{keeping}
use Rattle.node.proofs.Adding.{adds_nothing, answered, unkept}
use Rattle.node.proofs.keeping.keep_set_of.Goals as goal

pub returns-clause-calls : goal.returns-clause-calls
returns-clause-calls g c =
    answered (number_in c.args.seat.now) (keeping c.args.channel c.args.number) (Keep c.args.channel c.args.number c.in_ok-set.set.claims) (calls_in c.args.seat.now) (calls_in c.keep_set.new.seat) (last_in c.args.seat.now) (last_in c.keep_set.new.seat)
    (kept c.keep_set.result) (refl, refl) c.keep_set.ensures.reply

pub returns-clause-err : goal.returns-clause-err
returns-clause-err g c =
    unkept (number_in c.args.seat.now) (Keep c.args.channel c.args.number c.in_ok-set.set.claims) (calls_in c.args.seat.now) (calls_in c.keep_set.new.seat) (last_in c.args.seat.now) (last_in c.keep_set.new.seat) c.keep_set.result c.keep_set.ensures.reply

pub returns-in_err-set-clause-calls : goal.returns-in_err-set-clause-calls
returns-in_err-set-clause-calls g c = adds_nothing (number_in c.args.seat.now) (keeping c.args.channel c.args.number ∷ []) (calls_in c.args.seat.now) (calls_in c.args.seat.now) refl
