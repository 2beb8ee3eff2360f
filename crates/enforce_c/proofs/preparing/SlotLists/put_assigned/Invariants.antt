-- What is left, put onto the rows so far, is the whole.
use Rattle.std.proofs.Common.{◌≡◌, ◌≤◌, drop, length}
use Rattle.enforce_c.specs.Prepared.{assigned}
use Rattle.enforce_c.proofs.preparing.SlotLists.put_assigned.Given as goal

abbrev pub invariant-loop-index : goal.invariant-loop-index
invariant-loop-index l = record {
  rest : assigned l.keys (drop l.taken l.slots) (drop l.index l.sources) l.self ≡ assigned l.keys l.slots l.sources l.initial.self;
  within : l.taken ≤ length l.slots;
}
