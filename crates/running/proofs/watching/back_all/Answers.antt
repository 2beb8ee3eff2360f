use Rattle.std.proofs.Common.{sym, ap, ◌∙◌, arith}
use Rattle.std.specs.Prelude.{slice_set}
use Rattle.std.proofs.lemmas.List.Edits.{map_over_more}
use Rattle.watch.specs.Watching.{Seen, seen_up_to}
use Rattle.running.proofs.watching.back_all.Goals as goal

pub loop-index-preserved : goal.loop-index-preserved
loop-index-preserved c =
    ap (λ (s : Seen). slice_set c.loop-index.watches c.loop-index.index s) (c.back_on.ensures ∙ ap (seen_up_to c.args.height) (sym c.index-watches-index.is))
    ∙ map_over_more (seen_up_to c.args.height) c.args.watches.now c.loop-index.watches c.loop-index.index c.index-watches-index.result (omega arith) c.loop-index.invariant c.index-watches-index.is
