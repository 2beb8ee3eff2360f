use Rattle.script.proofs.Unique.{exactly}
use Rattle.script.proofs.parse.Script.parse.Goals as goal

pub returns-clause-exact : goal.returns-clause-exact
returns-clause-exact c = exactly c.args.bytes.now c.read.result c.read.ensures.ok c.read.ensures.fault
