use Rattle.facts.proofs.Same.{same_fact-exact}
use Rattle.facts.proofs.sameness.Fact.equals.Goals as goal

pub returns-clause-exact : goal.returns-clause-exact
returns-clause-exact c = same_fact-exact c.args.self.now c.args.other.now c.is_same_fact.result c.is_same_fact.ensures
