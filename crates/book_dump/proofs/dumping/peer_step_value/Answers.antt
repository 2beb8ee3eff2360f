use Rattle.std.proofs.Common.{ap}
use Rattle.serde_json.specs.View.{view}
use Rattle.book.specs.declared.calls.Step.TheVariants.{Peer}
use Rattle.book_dump.proofs.LoadedAgain.{update_again}
use Rattle.book_dump.proofs.dumping.peer_step_value.Goals as goal

pub returns-in_ok-write_value-in-Update-clause-back : goal.returns-in_ok-write_value-in-Update-clause-back
returns-in_ok-write_value-in-Update-clause-back c =
    let message = c.in_ok-write_value-in-Update in
    update_again c.args.channel (Peer c.args.step.now) c.in-Update.update (view message.field-0) c.write_receive.result (ap Peer c.in-Update.is) message.ensures.form message.ensures.back c.write_receive.ensures.back
