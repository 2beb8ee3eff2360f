-- What is left, put onto the rows so far, is the whole.
use Rattle.std.proofs.Common.{◌≡◌, drop}
use Rattle.enforce_c.specs.Prepared.{with_values}
use Rattle.enforce_c.proofs.preparing.SlotLists.put_values.Given as goal

abbrev pub invariant-loop-stated : goal.invariant-loop-stated
invariant-loop-stated l = with_values l.keys (drop l.stated-index l.facts) l.self ≡ with_values l.keys l.facts l.initial.self
