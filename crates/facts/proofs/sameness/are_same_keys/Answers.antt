use Rattle.facts.proofs.Same.{same_keys-apart}
use Rattle.facts.proofs.sameness.are_same_keys.Goals as goal

pub returns-then-keys-others : goal.returns-then-keys-others
returns-then-keys-others c = same_keys-apart c.args.keys.now c.args.others.now c.if-keys-others.true
