use Rattle.std.proofs.Common.{sym, ap, ◌∙◌, arith}
use Rattle.std.specs.Prelude.{slice_set}
use Rattle.std.proofs.lemmas.List.Edits.{map_over_more}
use Rattle.side.specs.declared.following.Followed.{Followed}
use Rattle.side.specs.Following.{taught_in}
use Rattle.side.proofs.following.teach_all.Goals as goal

pub loop-index-preserved : goal.loop-index-preserved
loop-index-preserved c =
    ap (λ (f : Followed). slice_set c.loop-index.channels c.loop-index.index f) (c.in_ok-teach.ensures ∙ ap (taught_in c.args.shown.now) (sym c.index-channels-index.is))
    ∙ map_over_more (taught_in c.args.shown.now) c.args.channels.now c.loop-index.channels c.loop-index.index c.index-channels-index.result (omega arith) c.loop-index.invariant c.index-channels-index.is
