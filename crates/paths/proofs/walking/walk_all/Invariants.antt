use Rattle.std.proofs.Common.{◌≡◌, [], ◌-◌, All, length}
use Rattle.paths.specs.HoleListing.{walk, beginning}
use Rattle.paths.specs.Walking.{IsWaiting, waiting_paths}
use Rattle.paths.proofs.walking.walk_all.Given as goal

abbrev pub invariant-loop-next : goal.invariant-loop-next
invariant-loop-next l = record {
  whole : walk l.holes l.counted 0 l.ops beginning (record { begun = 1; paths = [] }) ≡ waiting_paths l.holes l.counted l.ops l.waiting l.listed;
  waiting : All (IsWaiting l.counted (length l.ops)) l.waiting;
}

abbrev pub decreases-loop-next : goal.decreases-loop-next
decreases-loop-next l = 64 - l.listed.begun
