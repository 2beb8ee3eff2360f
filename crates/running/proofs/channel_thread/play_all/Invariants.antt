use Rattle.std.proofs.Common.{◌+◌, ◌≤◌}
use Rattle.running.specs.Threads.{IsChannelThread}
use Rattle.running.proofs.Playing.{GoesOnFrom}
use Rattle.running.proofs.channel_thread.play_all.Given as goal

abbrev pub invariant-loop-index : goal.invariant-loop-index
invariant-loop-index g l = record {
  channel_thread : IsChannelThread l.shared l.channel_thread;
  few : l.counts.played + l.counts.refused ≤ l.index;
  plays : GoesOnFrom l.events l.index l.initial.channel_thread l.channel_thread l.counts;
}
