use Rattle.std.proofs.Common.{ap, ◌∙◌, ◌-◌, arith}
use Rattle.chain.specs.Connecting.{with_transaction}
use Rattle.chain.proofs.Growing.{weaker, transaction_last}
use Rattle.chain.proofs.chain_blocks.Blocks.push.Goals as goal

pub returns-clause-ok : goal.returns-clause-ok
returns-clause-ok c =
    weaker c.push.result
    (λ e. transaction_last c.self.inside.items.items (c.len-last.result - 1) c.index_mut-newest.result.now c.push.new.self c.args.confirmed (omega (arith, c.self.inside.items.ok.0, c.len-last.ensures, c.self.invariant)) c.index_mut-newest.ensures.value e
    ∙ ap (λ bs. with_transaction bs c.args.confirmed) c.self.view_is)
    c.push.ensures.ok
