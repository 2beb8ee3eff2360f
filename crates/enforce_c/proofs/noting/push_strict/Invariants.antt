-- The notes so far, with those on the branches that are left, are the whole.
use Rattle.std.proofs.Common.{◌≡◌, ◌++◌, drop, map}
use Rattle.enforce_c.specs.Noted.{strict_note}
use Rattle.enforce_c.proofs.noting.push_strict.Given as goal

abbrev pub invariant-loop-end : goal.invariant-loop-end
invariant-loop-end l = l.notes.items ++ map strict_note (drop l.end-index l.ends) ≡ l.initial.notes.items ++ map strict_note l.ends
