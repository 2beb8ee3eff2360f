use Rattle.std.proofs.Common.{◌≡◌, drop}
use Rattle.facts.specs.Sameness.{same_keys}
use Rattle.facts.proofs.sameness.are_same_keys.Given as goal

abbrev pub invariant-loop-i : goal.invariant-loop-i
invariant-loop-i l = same_keys (drop l.i l.keys) (drop l.i l.others) ≡ same_keys l.keys l.others
