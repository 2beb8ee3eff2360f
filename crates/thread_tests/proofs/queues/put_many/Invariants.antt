use Rattle.jobs.specs.Ends.{PutsWith}
use Rattle.thread_tests.proofs.queues.put_many.Given as goal

abbrev pub invariant-loop-k : goal.invariant-loop-k
invariant-loop-k g l = PutsWith l.sender l.pass
