-- What is left, put onto the rows so far, is the whole.
use Rattle.std.proofs.Common.{◌≡◌, drop}
use Rattle.enforce_c.specs.Prepared.{with_hashes}
use Rattle.enforce_c.proofs.preparing.SlotLists.put_hashes.Given as goal

abbrev pub invariant-loop-stated : goal.invariant-loop-stated
invariant-loop-stated l = with_hashes l.keys l.preimages (drop l.stated-index l.facts) l.self ≡ with_hashes l.keys l.preimages l.facts l.initial.self
