use Rattle.std.proofs.Common.{rules, ap, ◌∙◌}
use Rattle.std.proofs.lemmas.Fn.{filter_same}
use Rattle.watch.specs.Watching.{seen_up_to}
use Rattle.watch.proofs.Standings.{same_seen}
use Rattle.watch.proofs.watching.Watch.back.Goals as goal

pub returns : goal.returns
returns c =
    same_seen _ _ _ _
    (filter_same _ _ _ (λ x b f' k. search rules) _ _ c.retain.ensures.filtered)
    (filter_same _ _ _ (λ x b f' k. search rules) _ _ c.retain-2.ensures.filtered)
    ∙ ap (seen_up_to c.args.height) c.self.view_is
