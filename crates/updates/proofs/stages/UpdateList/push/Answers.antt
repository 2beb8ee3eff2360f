use Rattle.updates.proofs.Fees.{newest_fee-push, part_on}
use Rattle.updates.proofs.stages.UpdateList.push.Goals as goal

pub invariant_of-self-2 : goal.invariant_of-self-2
invariant_of-self-2 c =
    let (f, p, q, r, t) = c.self.invariant in
    rw (c.in_ok-push.ensures.items, c.feerate_per_kw_after-feerate_per_kw.ensures, f) (
      newest_fee-push c.self.inside.updates.items c.args.update,
      part_on c.self.inside.updates.items c.args.update c.self.inside.with_receiver p,
      part_on c.self.inside.updates.items c.args.update c.self.inside.past_receiver q,
      part_on c.self.inside.updates.items c.args.update c.self.inside.with_sender r,
      part_on c.self.inside.updates.items c.args.update c.self.inside.settled t,
    )
