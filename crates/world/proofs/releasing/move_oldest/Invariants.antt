use Rattle.std.proofs.Common.{◌≡◌, ◌+◌, ◌≤◌, ◌++◌, take, drop}
use Rattle.world.proofs.releasing.move_oldest.Given as goal

abbrev pub invariant-loop-job : goal.invariant-loop-job
invariant-loop-job l = record {
  from : l.from.items ≡ drop l._job l.initial.from.items;
  to : l.to.items ≡ l.initial.to.items ++ take l._job l.initial.from.items;
  left : l.from.len + l._job ≡ l.initial.from.len;
  moved : l.to.len ≡ l.initial.to.len + l._job;
  room : l.initial.to.len + l.count ≤ l.to.cap;
}
