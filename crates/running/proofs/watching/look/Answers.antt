use Rattle.running.proofs.Finding.{finds_some}
use Rattle.running.proofs.watching.look.Goals as goal

pub returns-clause-found : goal.returns-clause-found
returns-clause-found g c = finds_some c.deref.result.now c.args.top c.args.follower c.look_at.result c.look_at.ensures.found
