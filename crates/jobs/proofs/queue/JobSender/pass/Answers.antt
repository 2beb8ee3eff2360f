use Rattle.jobs.proofs.Keeps.{forks}
use Rattle.jobs.specs.Ends.{hand_of}
use Rattle.jobs.proofs.queue.JobSender.pass.Goals as goal

pub another-requires-clause-rule : goal.another-requires-clause-rule
another-requires-clause-rule g c = forks c.args.pass.now.id (hand_of c.args.pass.now)
