use Rattle.std.proofs.Common.{◌≡◌}
use Rattle.std.proofs.lemmas.Result.{IfOk-weaker}
use Rattle.world.specs.Publishing.{refusal_by}
use Rattle.desk.specs.Seats.{last_in}
use Rattle.running.specs.Outcomes.{IsBroadcastOutcome}
use Rattle.running.proofs.chain_thread.play_broadcast.Goals as goal

pub returns-clause-since : goal.returns-clause-since
returns-clause-since g c = c.tx_of.ensures.history.since

pub returns-clause-outcome : goal.returns-clause-outcome
returns-clause-outcome g c =
    IfOk-weaker c.send.result (λ outcome. outcome ≡ refusal_by c.in_ok-answer.answer) (IsBroadcastOutcome (last_in c.tx_of.new.seat) c.args.broadcast.now)
    (λ outcome same. (c.in_ok-answer.answer, c.in_ok-answer.ensures.tx, same)) c.send.ensures

pub returns-in_err-answer-clause-since : goal.returns-in_err-answer-clause-since
returns-in_err-answer-clause-since g c = c.tx_of.ensures.history.since
