use Rattle.std.proofs.Common.{arith}
use Rattle.book.specs.Knowing.{signed_parts, own_at}
use Rattle.book.proofs.Recorded.{one_later}
use Rattle.book.proofs.knowing.older_commitments.Goals as goal

pub loop-number-preserved : goal.loop-number-preserved
loop-number-preserved c =
    let l = c.loop-number in
    let one = c.in_ok-own_commitment in
    let within = c.loop-number-test.true in
    (one_later signed_parts (own_at c.args.channel.now) l.number l.older.items c.push.new.self.items one.field-0 c.in_ok-push.ensures.items l.invariant.0 one.ensures, omega (arith, within), l.invariant.2)
