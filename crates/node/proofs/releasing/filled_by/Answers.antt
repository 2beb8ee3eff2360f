use Rattle.std.proofs.Common.{ap, ◌∙◌}
use Rattle.book.specs.declared.calling.Reply.TheVariants.{Released}
use Rattle.desk.specs.Seats.{number_in, calls_in, last_in}
use Rattle.node.proofs.Releases.{always_released, is_filled, is_unfilled}
use Rattle.node.proofs.releasing.filled_by.Goals as goal

pub unreachable-requires : goal.unreachable-requires
unreachable-requires g c =
    always_released (number_in c.args.seat.now) c.args.channel c.args.batch (calls_in c.args.seat.now) (calls_in c.call.new.seat) (last_in c.args.seat.now) (last_in c.call.new.seat) c.call.result c.call.ensures.reply c.in_default.not-Released

pub returns-in-Ok-clause-filled : goal.returns-in-Ok-clause-filled
returns-in-Ok-clause-filled g c =
    is_filled (number_in c.args.seat.now) c.args.channel c.args.batch (calls_in c.args.seat.now) (calls_in c.call.new.seat) (last_in c.args.seat.now) (last_in c.call.new.seat) c.call.result c.in-Ok.filled c.into_tx.result
    (c.in-Released.is ∙ ap Released c.in-Ok.is) c.into_tx.ensures.value c.call.ensures.reply

pub returns-in-Err-clause-filled : goal.returns-in-Err-clause-filled
returns-in-Err-clause-filled g c =
    is_unfilled (number_in c.args.seat.now) c.args.channel c.args.batch (calls_in c.args.seat.now) (calls_in c.call.new.seat) (last_in c.args.seat.now) (last_in c.call.new.seat) c.call.result c.in-Err.error
    (c.in-Released.is ∙ ap Released c.in-Err.is) c.call.ensures.reply
