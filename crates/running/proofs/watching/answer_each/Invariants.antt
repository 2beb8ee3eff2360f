use Rattle.std.proofs.Common.{◌≡◌, length, drop}
use Rattle.side.specs.Reading.{Reader}
use Rattle.desk.specs.Histories.{History}
use Rattle.desk.specs.Seats.{HasSameCalls, last_in}
use Rattle.running.specs.Following.{AreAnswered}
use Rattle.running.proofs.watching.answer_each.Given as goal

abbrev pub invariant-loop-channel : goal.invariant-loop-channel
invariant-loop-channel g l = record {
  seat : HasSameCalls l.side.desk l.initial.seat l.seat;
  many : length l.reader.seen ≡ length l.initial.reader.seen;
  asked : (after : History) (next : Reader) → AreAnswered (last_in l.seat) after (drop l.channel-index l.channels) l.reader next → AreAnswered (last_in l.initial.seat) after l.channels l.initial.reader next;
}
