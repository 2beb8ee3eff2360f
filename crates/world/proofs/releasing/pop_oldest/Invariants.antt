use Rattle.std.proofs.Common.{◌≡◌, drop}
use Rattle.world.proofs.releasing.pop_oldest.Given as goal

abbrev pub invariant-loop-job : goal.invariant-loop-job
invariant-loop-job l = l.taken.items ≡ drop l._job l.initial.taken.items
