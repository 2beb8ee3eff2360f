-- What is left, put onto the rows so far, is the whole.
use Rattle.std.proofs.Common.{◌≡◌, drop}
use Rattle.enforce_c.specs.Rows.{with_keys}
use Rattle.enforce_c.proofs.telling.Rows.push_keys.Given as goal

abbrev pub invariant-loop-key : goal.invariant-loop-key
invariant-loop-key l = with_keys l.holds (drop l.key-index l.keys) l.self ≡ with_keys l.holds l.keys l.initial.self
