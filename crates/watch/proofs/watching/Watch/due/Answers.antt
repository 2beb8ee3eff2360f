use Rattle.std.proofs.Common.{ap, ◌∙◌}
use Rattle.watch.specs.Watching.{Seen}
use Rattle.watch.proofs.Giving.{due_on_all}
use Rattle.watch.proofs.watching.Watch.due.Goals as goal

pub returns : goal.returns
returns c =
    due_on_all c.args.known.now c.due_by.result c.as_slice.result.now c.args.self.now.spends (c.as_slice.ensures.value ∙ ap (λ (s : Seen). s.spends) c.self.view_is) c.due_by.ensures.exact
    c.due_by.ensures.accepted
