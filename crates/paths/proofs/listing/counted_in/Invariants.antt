use Rattle.std.proofs.Common.{◌≡◌, ◌≤◌, take}
use Rattle.script.specs.Run.{counted_in}
use Rattle.paths.proofs.listing.counted_in.Given as goal

abbrev pub invariant-loop-op : goal.invariant-loop-op
invariant-loop-op l = (l.counted ≡ counted_in (take l.op-index l.ops)) × (l.counted ≤ l.op-index)
