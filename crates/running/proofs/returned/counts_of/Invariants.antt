use Rattle.std.proofs.Common.{◌≡◌, map, take}
use Rattle.running.proofs.returned.counts_of.Given as goal

abbrev pub invariant-loop-channel : goal.invariant-loop-channel
invariant-loop-channel l = l.counts.items ≡ map (λ p. p.counts) (take l.channel-index l.channels)
