use Rattle.std.proofs.Common.{◌≡◌, length, take}
use Rattle.tx.proofs.limited.are_equal.Given as goal

abbrev pub invariant-loop-i : goal.invariant-loop-i
invariant-loop-i g l = (length l.some ≡ length l.others) × (take l.i l.some ≡ take l.i l.others)
