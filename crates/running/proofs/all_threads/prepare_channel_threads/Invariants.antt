use Rattle.std.proofs.Common.{◌≡◌, ◌+◌, All, length, map}
use Rattle.std.specs.List.{range_with_len}
use Rattle.running.specs.Threads.{AreResources, IsChannelThread}
use Rattle.running.specs.Playing.{IsFirstChannelThreadIn}
use Rattle.running.proofs.all_threads.prepare_channel_threads.Given as goal

abbrev pub invariant-loop-channel : goal.invariant-loop-channel
invariant-loop-channel l = record {
  channel_threads : All (IsChannelThread l.shared) l.channel_threads.items;
  first : All (IsFirstChannelThreadIn l.closing_seats) l.channel_threads.items;
  channels : map (λ channel_thread. channel_thread.channel) l.channel_threads.items ≡ range_with_len 0 l.channel;
  a : AreResources l.shared.a l.closing_seats.a l.a;
  b : AreResources l.shared.b l.closing_seats.b l.b;
  a_left : length l.a.seats.items + l.channel ≡ length l.initial.a.seats.items;
  b_left : length l.b.seats.items + l.channel ≡ length l.initial.b.seats.items;
}
