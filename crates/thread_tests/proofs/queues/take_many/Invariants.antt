use Rattle.jobs.specs.Ends.{TakesWith}
use Rattle.thread_tests.proofs.queues.take_many.Given as goal

abbrev pub invariant-loop : goal.invariant-loop
invariant-loop g l = TakesWith l.taker l.pass
