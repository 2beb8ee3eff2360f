use Rattle.jobs.proofs.Keeps.{begins}
use Rattle.jobs.proofs.queue.job_queue.Goals as goal

pub bounded_with-requires-clause-rule : goal.bounded_with-requires-clause-rule
bounded_with-requires-clause-rule g c = begins
