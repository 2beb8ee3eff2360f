use Rattle.std.proofs.Common.{take}
use Rattle.side.proofs.Readings.{AreWhole}
use Rattle.side.proofs.reading.hold_whole.Given as goal

abbrev pub invariant-loop-index : goal.invariant-loop-index
invariant-loop-index l = AreWhole (take l.index l.due.items)
