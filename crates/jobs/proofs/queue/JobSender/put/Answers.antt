use Rattle.std.proofs.Common.{arith}
use Rattle.jobs.proofs.Keeps.{puts}
use Rattle.jobs.specs.Ends.{hand_of}
use Rattle.jobs.proofs.queue.JobSender.put.Goals as goal

pub send_as-requires-clause-rule : goal.send_as-requires-clause-rule
send_as-requires-clause-rule g c = (puts _ c.args.pass.now.id (hand_of c.args.pass.now) c.args.job (omega (arith, c.requires.1)), λ items views h at. tt)
