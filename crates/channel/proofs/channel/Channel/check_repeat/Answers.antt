use Rattle.std.proofs.Common.{rules, ◌≡◌, ◌∙◌, ap, subst, Some, None, true}
use Rattle.std.specs.Prelude.{◌==◌}
use Rattle.std.specs.List.{list_any}
use Rattle.updates.specs.declared.changes.Update.TheVariants.{Fail}
use Rattle.updates.specs.declared.errors.ChannelError.TheVariants.{AlreadyFulfilled}
use Rattle.updates.specs.Refusals.{if_so, IsRefusal}
use Rattle.updates.specs.Steady.{own_tests}
use Rattle.channel.specs.States.{State, repeat_tests, update_refusal}
use Rattle.channel.proofs.Repeats.{none_first, refused_first}
use Rattle.channel.proofs.channel.Channel.check_repeat.Goals as goal

pub returns-in-Ok : goal.returns-in-Ok
returns-in-Ok c =
    let i = c.self.inside in
    let id = c.args.id in
    let is : list_any (λ k. k == id) i.fulfilled.items ≡ true = search rules in
    subst (λ (s : State). update_refusal s (Fail id) ≡ Some AlreadyFulfilled) c.self.view_is
    (none_first (own_tests i.ledger (Fail id)) (repeat_tests i.fulfilled.items (Fail id)) c.in-Ok.ensures ∙ ap (λ b. if_so b AlreadyFulfilled None) is)

pub returns-in-Err : goal.returns-in-Err
returns-in-Err c =
    let i = c.self.inside in
    let id = c.args.id in
    let refusal = c.in-Err.refusal in
    subst (λ (s : State). IsRefusal (update_refusal s (Fail id)) refusal) c.self.view_is (refused_first (own_tests i.ledger (Fail id)) (repeat_tests i.fulfilled.items (Fail id)) refusal c.in-Err.ensures)
