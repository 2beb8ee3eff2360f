use Rattle.std.proofs.Common.{length, ap, ◌∙◌, arith}
use Rattle.side.specs.Reading.{Reader}
use Rattle.desk.specs.Seats.{last_in}
use Rattle.running.proofs.Asking.{answered_next, all_answered}
use Rattle.running.proofs.Same.{still_same}
use Rattle.running.proofs.watching.answer_each.Goals as goal

pub loop-channel-preserved : goal.loop-channel-preserved
loop-channel-preserved g c =
    let was = c.loop-channel.invariant in
    let one = c.in_ok-answer.ensures.reader in
    record {
      seat = still_same c.args.side.now.desk c.args.seat.now c.loop-channel.seat c.answer.new.seat was.seat c.answer.ensures.seat;
      many = ap (λ (r : Reader). length r.seen) one.next_is ∙ was.many;
      asked = λ after next more. was.asked after next (answered_next (last_in c.loop-channel.seat) (last_in c.answer.new.seat) after c.args.channels.now c.loop-channel.channel-index c.loop-channel.reader c.answer.new.reader next (omega arith) one more);
    }

pub returns-clause-asked : goal.returns-clause-asked
returns-clause-asked g c =
    c.loop-channel.invariant.asked (last_in c.loop-channel.seat) c.loop-channel.reader (all_answered (last_in c.loop-channel.seat) c.args.channels.now c.loop-channel.channel-index c.loop-channel.reader (omega arith))
