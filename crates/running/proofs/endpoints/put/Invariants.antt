use Rattle.std.proofs.Common.{◌≡◌}
use Rattle.jobs.specs.Ends.{PutsWith, hand_of}
use Rattle.running.proofs.endpoints.put.Given as goal

abbrev pub invariant-loop : goal.invariant-loop
invariant-loop g l = record {
  next : (goal.iterator-loop g).can_next l.iterator' × (goal.iterator-loop g).is_finite l.iterator';
  pass : PutsWith l.sender l.pass;
  job : l.left ≡ l.fn.job;
  hand : hand_of l.pass ≡ hand_of l.initial.pass;
}
