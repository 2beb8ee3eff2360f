use Rattle.std.proofs.Common.{sym, ap, ◌∙◌}
use Rattle.std.specs.Prelude.{is_some}
use Rattle.book.specs.Dispatch.{reply_form}
use Rattle.world.specs.Refusing.{refusal_in}
use Rattle.world.proofs.Answering.{has_refusal, is_answered, is_undone}
use Rattle.world.proofs.nodes.Node.answer.Goals as goal

pub of_reply-requires : goal.of_reply-requires
of_reply-requires c =
    ap (λ r. is_some (refusal_in (reply_form r))) c.in-Err.ensures.1
    ∙ has_refusal c.args.self.now c.call.new.self.history c.args.call (reply_form c.call.result) c.requires c.call.ensures.book c.in-Err.ensures.0

pub returns-in-Ok : goal.returns-in-Ok
returns-in-Ok c =
    is_answered c.args.self.now c.call.new.self c.args.call (reply_form c.call.result) c.in-Ok.message c.call.ensures.book c.call.ensures.rest c.in-Ok.ensures.0 c.in-Ok.ensures.1

pub returns-in-Err : goal.returns-in-Err
returns-in-Err c =
    is_undone c.args.self.now c.call.new.self c.args.call (reply_form c.call.result) c.of_reply.result c.requires c.call.ensures.book c.call.ensures.rest c.in-Err.ensures.0
    (ap (λ r. refusal_in (reply_form r)) (sym c.in-Err.ensures.1) ∙ c.of_reply.ensures)
