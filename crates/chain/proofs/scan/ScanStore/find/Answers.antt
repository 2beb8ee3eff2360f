use Rattle.std.proofs.Common.{ap, ◌∙◌}
use Rattle.chain.specs.Blocks.{Standing, coin_at}
use Rattle.chain.proofs.Finding.{coin_found}
use Rattle.chain.proofs.scan.ScanStore.find.Goals as goal

pub returns : goal.returns
returns c =
    coin_found c.self.inside.blocks c.as_slice.result.now c.as_slice-2.result.now c.args.outpoint.now c.in_ok-output.output.now c.in_ok-output.height c.is_named.result c.as_slice.ensures.value c.as_slice-2.ensures.value c.in_ok-output.ensures c.is_named.ensures
    ∙ ap (λ (s : Standing). coin_at s.blocks c.args.outpoint.now) c.self.view_is
