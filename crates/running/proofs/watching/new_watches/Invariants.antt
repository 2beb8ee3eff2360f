use Rattle.std.proofs.Common.{◌≡◌, replicate}
use Rattle.watch.specs.Watching.{nothing_seen}
use Rattle.running.proofs.watching.new_watches.Given as goal

abbrev pub invariant-loop-channel : goal.invariant-loop-channel
invariant-loop-channel l = l.watches.items ≡ replicate l._channel nothing_seen
