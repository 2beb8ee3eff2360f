use Rattle.std.proofs.Common.{arith}
use Rattle.enforce_c.proofs.Prepared.{no_more}
use Rattle.enforce_c.proofs.preparing.SlotLists.put_assigned.Goals as goal

pub returns : goal.returns
returns c =
    no_more c.args.keys.now c.args.slots.now c.args.sources.now c.loop-index.taken c.loop-index.index c.loop-index.self _ (omega (arith, c.loop-index-test.false)) c.loop-index.invariant.rest
