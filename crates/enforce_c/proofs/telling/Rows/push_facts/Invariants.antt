-- What is left, put onto the rows so far, is the whole.
use Rattle.std.proofs.Common.{◌≡◌, drop}
use Rattle.enforce_c.specs.Rows.{with_facts}
use Rattle.enforce_c.proofs.telling.Rows.push_facts.Given as goal

abbrev pub invariant-loop-stated : goal.invariant-loop-stated
invariant-loop-stated l = with_facts (drop l.stated-index l.facts) l.self ≡ with_facts l.facts l.initial.self
