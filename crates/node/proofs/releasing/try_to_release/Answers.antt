use Rattle.std.proofs.Common.{◌≡◌, [], ◌∷◌, Some, refl}
use Rattle.book.specs.Calling.{filling_by}
use Rattle.desk.specs.Seats.{number_in, calls_in}
use Rattle.node.specs.Tasks.{releasing}
use Rattle.node.proofs.Adding.{adds_nothing, released_one, unreleased}
use Rattle.node.proofs.releasing.try_to_release.Goals as goal

pub returns-clause-calls : goal.returns-clause-calls
returns-clause-calls g c =
    let batch = c.in_ok-batch.batch in
    released_one (number_in c.args.seat.now) c.args.due.now.channel (releasing (Some c.args.payment.now) c.args.due.now) batch c.filled_by.result (λ tx. tx ≡ (filling_by batch).tx) (calls_in c.args.seat.now)
    (calls_in c.filled_by.new.seat) (refl, c.in_ok-batch.ensures) c.filled_by.ensures.filled

pub returns-clause-err : goal.returns-clause-err
returns-clause-err g c =
    let batch = c.in_ok-batch.batch in
    unreleased (number_in c.args.seat.now) c.args.due.now.channel batch c.filled_by.result (λ tx. tx ≡ (filling_by batch).tx) (calls_in c.args.seat.now) (calls_in c.filled_by.new.seat) c.filled_by.ensures.filled

pub returns-in_err-batch-clause-calls : goal.returns-in_err-batch-clause-calls
returns-in_err-batch-clause-calls g c = adds_nothing (number_in c.args.seat.now) (releasing (Some c.args.payment.now) c.args.due.now ∷ []) (calls_in c.args.seat.now) (calls_in c.args.seat.now) refl
