use Rattle.std.proofs.Common.{true, false, refl}
use Rattle.book.proofs.Remaining.{spent_one, left_one}
use Rattle.book.proofs.again.push_unless_spent.Goals as goal

pub returns-then-is_among : goal.returns-then-is_among
returns-then-is_among c = spent_one c.args.spent.now c.args.claim.now c.args.left.now c.outpoint.result true c.outpoint.ensures c.if-is_among.ensures refl

pub returns : goal.returns
returns c =
    left_one c.args.spent.now c.args.claim.now c.in_ok-copy.field-0 c.args.left.now c.push.new.self c.outpoint.result false c.outpoint.ensures c.if-is_among.ensures refl c.in_ok-copy.ensures
    c.in_ok-push.ensures.pushed
