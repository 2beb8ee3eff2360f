use Rattle.std.proofs.Common.{◌≡◌, take, map}
use Rattle.filling.specs.Spends.{blank_for}
use Rattle.filling.proofs.blanks.blanks.Given as goal

abbrev pub invariant-loop-slot : goal.invariant-loop-slot
invariant-loop-slot l = l.items.items ≡ map (blank_for l.preimages) (take l.slot-index l.slots)
