-- What is left, put onto the rows so far, is the whole.
use Rattle.std.proofs.Common.{◌≡◌, drop}
use Rattle.enforce_c.specs.Prepared.{with_truths}
use Rattle.enforce_c.proofs.preparing.SlotLists.put_truths.Given as goal

abbrev pub invariant-loop-stated : goal.invariant-loop-stated
invariant-loop-stated l = with_truths (drop l.stated-index l.facts) l.self ≡ with_truths l.facts l.initial.self
