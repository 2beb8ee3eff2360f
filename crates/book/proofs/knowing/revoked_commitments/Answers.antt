use Rattle.std.proofs.Common.{rules}
use Rattle.book.specs.Knowing.{revoked_parts, revoked_at, flag_at}
use Rattle.book.proofs.Recorded.{one_later, one_longer}
use Rattle.book.proofs.knowing.revoked_commitments.Goals as goal

pub loop-number-preserved : goal.loop-number-preserved
loop-number-preserved c =
    let at = revoked_at c.args.channel.now (flag_at c.args.flags.now) in
    let before = c.loop-number in
    let one = c.in_ok-commitment in (
      one_later revoked_parts at before.number before.revoked c.push_next.new.revoked one.commitment c.in_ok-push_next.ensures before.invariant.0 one.ensures.value,
      one_longer before.number before.revoked c.push_next.new.revoked one.commitment c.in_ok-push_next.ensures before.invariant.1,
      search rules,
      before.invariant.3,
    )
