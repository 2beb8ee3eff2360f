use Rattle.std.proofs.Common.{◌≡◌}
use Rattle.std.proofs.lemmas.Result.{IfOk-weaker}
use Rattle.side.specs.Reading.{with_answer}
use Rattle.desk.specs.Seats.{last_in}
use Rattle.running.specs.Following.{IsAnsweredFor}
use Rattle.running.proofs.watching.answer.Goals as goal

pub returns-in-Ok-clause-reader : goal.returns-in-Ok-clause-reader
returns-in-Ok-clause-reader g c =
    IfOk-weaker c.answer.result (λ _. c.answer.new.self ≡ with_answer c.args.channel c.in-Ok.known c.args.reader.now)
    (λ _. IsAnsweredFor (last_in c.args.seat.now) (last_in c.known.new.seat) c.args.channel c.args.reader.now c.answer.new.self)
    (λ _ is. record { known = c.in-Ok.known; since = c.known.ensures.history.since; is = c.in-Ok.ensures.known; next_is = is }) c.answer.ensures.ok
