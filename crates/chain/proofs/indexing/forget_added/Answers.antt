use Rattle.chain.proofs.Noting.{noted_less}
use Rattle.chain.proofs.indexing.forget_added.Goals as goal

pub returns-then-added : goal.returns-then-added
returns-then-added c = rw c.if-added.true (noted_less c.args.coins.now c.remove.new.self c.args.outpoint.now c.remove.ensures.updates.0)
