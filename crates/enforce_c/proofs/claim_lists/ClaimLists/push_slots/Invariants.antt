-- What is left, put onto the lists so far, is the whole.
use Rattle.std.proofs.Common.{◌≡◌, drop}
use Rattle.enforce_c.specs.ClaimLists.{with_slots}
use Rattle.enforce_c.proofs.claim_lists.ClaimLists.push_slots.Given as goal

abbrev pub invariant-loop-slot : goal.invariant-loop-slot
invariant-loop-slot l = with_slots l.shell (drop l.slot-index l.slots) l.self ≡ with_slots l.shell l.slots l.initial.self
