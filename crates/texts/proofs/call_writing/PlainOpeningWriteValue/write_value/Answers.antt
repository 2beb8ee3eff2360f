use Rattle.texts.proofs.CallReturning.{opening_again}
use Rattle.texts.proofs.call_writing.PlainOpeningWriteValue.write_value.Goals as goal

pub returns-clause-back : goal.returns-clause-back
returns-clause-back c =
    opening_again c.args.self.now c.in_ok-item.ensures.back c.in_ok-item-2.ensures.back c.in_ok-item-3.ensures.back c.in_ok-item-4.ensures.back c.in_ok-item-5.ensures.back
    c.in_ok-item-6.ensures.back c.in_ok-call.ensures.back
