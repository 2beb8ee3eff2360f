use Rattle.std.proofs.Common.{ap, ◌∙◌, ◌-◌, arith}
use Rattle.chain.specs.Connecting.{with_grant}
use Rattle.chain.proofs.Growing.{weaker, grant_last}
use Rattle.chain.proofs.chain_blocks.Blocks.grant.Goals as goal

pub returns-clause-ok : goal.returns-clause-ok
returns-clause-ok c =
    weaker c.grant.result
    (λ e. grant_last c.self.inside.items.items (c.len-last.result - 1) c.index_mut-newest.result.now c.grant.new.self c.args.output (omega (arith, c.self.inside.items.ok.0, c.len-last.ensures, c.self.invariant)) c.index_mut-newest.ensures.value e
    ∙ ap (λ bs. with_grant bs c.args.output) c.self.view_is)
    c.grant.ensures.ok
