use Rattle.watch.proofs.Showing.{keys_are_keys, openers_go, preimages_are_learnt}
use Rattle.watch.proofs.laws.preimages_are_learnt.Goals as goal

pub returns-clause-keys : goal.returns-clause-keys
returns-clause-keys c = keys_are_keys

pub returns-clause-go : goal.returns-clause-go
returns-clause-go c = openers_go c.scripts_are_satisfied_exactly.ensures

pub returns-clause-learnt : goal.returns-clause-learnt
returns-clause-learnt c = preimages_are_learnt
