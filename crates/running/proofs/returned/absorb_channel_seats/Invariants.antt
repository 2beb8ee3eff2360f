use Rattle.std.proofs.Common.{All}
use Rattle.std.specs.Vec.Iter.{into_iter_items}
use Rattle.running.specs.Homes.{IsLonePair, channel_seats_a, channel_seats_b}
use Rattle.running.proofs.Homing.{Taking}
use Rattle.running.proofs.returned.absorb_channel_seats.Given as goal

abbrev pub invariant-loop-channel : goal.invariant-loop-channel
invariant-loop-channel l = record {
  lone : All (IsLonePair l.shared) (into_iter_items l.channel-iterator);
  a : Taking l.shared.a.desk l.initial.closing_seats.a (channel_seats_a l.fn.channels.items) (channel_seats_a (into_iter_items l.channel-iterator)) l.closing_seats.a;
  b : Taking l.shared.b.desk l.initial.closing_seats.b (channel_seats_b l.fn.channels.items) (channel_seats_b (into_iter_items l.channel-iterator)) l.closing_seats.b;
}
