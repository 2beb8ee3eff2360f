use Rattle.std.proofs.Common.{sym, ap, ◌∙◌, arith}
use Rattle.std.specs.Prelude.{slice_set}
use Rattle.std.proofs.lemmas.List.Edits.{map_over_more}
use Rattle.world.specs.Worlds.{Line}
use Rattle.world.specs.Looking.{seen_back_to}
use Rattle.world.proofs.looking.back_all.Goals as goal

pub loop-index-preserved : goal.loop-index-preserved
loop-index-preserved c =
    ap (λ (l : Line). slice_set c.loop-index.lines c.loop-index.index l) (c.back_on.ensures ∙ ap (seen_back_to c.args.height) (sym c.index-lines-index.is))
    ∙ map_over_more (seen_back_to c.args.height) c.args.lines.now c.loop-index.lines c.loop-index.index c.index-lines-index.result (omega arith) c.loop-index.invariant c.index-lines-index.is
