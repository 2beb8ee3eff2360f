use Rattle.std.proofs.Common.{◌≡◌, ◌++◌, drop}
use Rattle.std.specs.List.{filter_map}
use Rattle.side.specs.Due.{wanted_by}
use Rattle.side.proofs.reading.wanted_in.Given as goal

abbrev pub invariant-loop-slot : goal.invariant-loop-slot
invariant-loop-slot l = l.wanted ++ filter_map (wanted_by l.preimages) (drop l.slot-index l.slots) ≡ filter_map (wanted_by l.preimages) l.slots
