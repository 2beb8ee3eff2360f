use Rattle.jobs.proofs.Keeps.{takes, learns}
use Rattle.jobs.specs.Ends.{hand_of}
use Rattle.jobs.proofs.queue.JobTaker.take.Goals as goal

pub recv_as-requires-clause-rule : goal.recv_as-requires-clause-rule
recv_as-requires-clause-rule g c = (takes c.args.pass.now.id (hand_of c.args.pass.now), learns c.args.pass.now.id (hand_of c.args.pass.now))
