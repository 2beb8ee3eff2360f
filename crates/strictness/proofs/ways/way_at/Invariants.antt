use Rattle.std.proofs.Common.{◌≡◌, drop}
use Rattle.strictness.specs.Ways.{way_at}
use Rattle.strictness.proofs.ways.way_at.Given as goal

-- what is left gives the whole
abbrev pub invariant-loop-choice : goal.invariant-loop-choice
invariant-loop-choice l = way_at l.choices l.at ≡ way_at (drop l.choice-index l.choices) l.at
