-- What is left, put onto the rows so far, is the whole.
use Rattle.std.proofs.Common.{◌≡◌, drop}
use Rattle.enforce_c.specs.Rows.{with_slots}
use Rattle.enforce_c.proofs.telling.Rows.push_slots.Given as goal

abbrev pub invariant-loop-slot : goal.invariant-loop-slot
invariant-loop-slot l = with_slots l.holds (drop l.slot-index l.slots) l.self ≡ with_slots l.holds l.slots l.initial.self
