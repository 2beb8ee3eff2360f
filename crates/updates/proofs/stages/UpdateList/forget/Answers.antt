use Rattle.std.proofs.Common.{◌≡◌, ◌∙◌, List, subst, sym, ap}
use Rattle.updates.specs.declared.changes.Update.{Update}
use Rattle.updates.specs.Steady.{InOrder}
use Rattle.updates.specs.Stages.{committed, stages_of}
use Rattle.updates.proofs.Cutting.{AreParts, parts_cut, stages_cut}
use Rattle.updates.proofs.stages.UpdateList.forget.Goals as goal

pub invariant_of-self : goal.invariant_of-self
invariant_of-self c =
    let (f, r, p, s, t) = c.self.invariant in
    let i = c.self.inside in
    let a : AreParts i.updates.items i.with_receiver i.past_receiver i.with_sender i.settled = record { receiver = r; past = p; sender = s; settled = t } in
    let cut = parts_cut i.updates.items i.with_receiver i.past_receiver i.with_sender i.settled a (subst InOrder (sym c.self.view_is) c.requires) in
    rw c.truncate.ensures.items (r.feerate_per_kw, cut.receiver, cut.past, cut.sender, cut.settled)

pub returns : goal.returns
returns c =
    let (f, r, p, s, t) = c.self.invariant in
    let i = c.self.inside in
    let a : AreParts i.updates.items i.with_receiver i.past_receiver i.with_sender i.settled = record { receiver = r; past = p; sender = s; settled = t } in
    ap (λ (us : List Update). stages_of us i.with_receiver.count i.past_receiver.count i.with_sender.count i.settled.count) c.truncate.ensures.items
    ∙ stages_cut i.updates.items i.with_receiver i.past_receiver i.with_sender i.settled a (subst InOrder (sym c.self.view_is) c.requires)
    ∙ ap committed c.self.view_is
