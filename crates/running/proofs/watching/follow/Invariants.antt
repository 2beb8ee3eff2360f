use Rattle.std.proofs.Common.{length}
use Rattle.running.specs.Threads.{GoesOnWatching}
use Rattle.running.specs.Following.{IsFollower}
use Rattle.running.proofs.watching.follow.Given as goal

abbrev pub invariant-loop : goal.invariant-loop
invariant-loop g l = record {
  next : (goal.iterator-loop g).can_next l.iterator' × (goal.iterator-loop g).is_finite l.iterator';
  watcher : GoesOnWatching l.side l.shared.board l.initial.watcher l.watcher;
  follower : IsFollower (length l.side.fundings.items) l.follower;
}
