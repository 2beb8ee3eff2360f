use Rattle.std.proofs.Common.{sym, ap, ◌∙◌, ◌%◌, ◌^◌}
use Rattle.chain.specs.Blocks.{grants_in}
use Rattle.chain.proofs.Growing.{counts_on, grants_in_more}
use Rattle.chain.proofs.scan.ScanStore.add_grant.Goals as goal

pub invariant_of-self-2 : goal.invariant_of-self-2
invariant_of-self-2 c =
    counts_on c.self.inside.grants (grants_in c.self.inside.blocks) 1 c.self.invariant
    ∙ ap (λ n. n % 2 ^ 64) (sym (grants_in_more c.self.inside.blocks c.args.output c.in_ok-grant.ensures.some))
    ∙ ap (λ bs. grants_in bs % 2 ^ 64) (sym c.in_ok-grant.ensures.ok)
