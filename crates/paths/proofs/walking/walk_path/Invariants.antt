use Rattle.std.proofs.Common.{◌≡◌, All, length}
use Rattle.paths.specs.Walking.{IsKept, IsWaiting, rest_of_walk}
use Rattle.paths.proofs.walking.walk_path.Given as goal

abbrev pub invariant-loop-at : goal.invariant-loop-at
invariant-loop-at l = record {
  whole : rest_of_walk l.holes l.counted l.ops l.fn.path.at l.fn.path.state l.fn.waiting l.listed ≡ rest_of_walk l.holes l.counted l.ops l.at l.state l.waiting l.listed;
  state : IsKept l.counted l.state;
  waiting : All (IsWaiting l.counted (length l.ops)) l.waiting;
}
