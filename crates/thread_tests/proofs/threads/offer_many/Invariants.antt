use Rattle.desk.specs.Seats.{IsSeatOf}
use Rattle.thread_tests.proofs.threads.offer_many.Given as goal

abbrev pub invariant-loop-k : goal.invariant-loop-k
invariant-loop-k g l = IsSeatOf l.desk l.seat
