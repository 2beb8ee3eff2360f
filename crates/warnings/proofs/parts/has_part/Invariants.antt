use Rattle.std.proofs.Common.{◌≡◌, length}
use Rattle.warnings.specs.Parts.{has_part}
use Rattle.warnings.proofs.parts.has_part.Given as goal

-- what is left decides
abbrev pub invariant-loop-after : goal.invariant-loop-after
invariant-loop-after l = has_part l.part l.rest ≡ has_part l.part l.bytes

abbrev pub decreases-loop-after : goal.decreases-loop-after
decreases-loop-after l = length l.rest
