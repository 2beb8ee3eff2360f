use Rattle.watch.proofs.Standings.{sees_what_stands as law}
use Rattle.watch.proofs.laws.sees_what_stands.Goals as goal

pub returns : goal.returns
returns c = law
