use Rattle.std.proofs.Common.{◌<◌, ◌≤◌, length, arith}
use Rattle.tx.proofs.Witnesses.{strips_more, strips_within}
use Rattle.tx.proofs.input.LimitedList+TxIn.strip_witnesses.Goals as goal

pub invariant_of-self : goal.invariant_of-self
invariant_of-self c =
    strips_within c.self.inside.items.items c.loop-i.self-inside.items.items c.loop-i.i c.loop-i.invariant (omega (arith, c.self.inside.items.ok.0)) c.self.invariant

pub loop-i-preserved : goal.loop-i-preserved
loop-i-preserved c =
    rw c.new.ensures (strips_more c.self.inside.items.items c.loop-i.self-inside.items.items c.loop-i.i c.index_mut-input.result.now c.loop-i.invariant (omega (arith, c.self.inside.items.ok.0)) c.index_mut-input.ensures.value)

pub returns-clause-limits : goal.returns-clause-limits
returns-clause-limits c =
    strips_within c.self.inside.items.items c.loop-i.self-inside.items.items c.loop-i.i c.loop-i.invariant (omega (arith, c.self.inside.items.ok.0)) c.self.invariant
