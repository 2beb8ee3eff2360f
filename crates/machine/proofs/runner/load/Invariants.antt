use Rattle.std.proofs.Common.{◌≡◌, reverse, take}
use Rattle.machine.proofs.runner.load.Given as goal

abbrev pub invariant-loop-item : goal.invariant-loop-item
invariant-loop-item l = l.stack ≡ reverse (take l.item-index l.witness)
