use Rattle.std.proofs.Common.{◌≡◌, false, length}
use Rattle.warnings.specs.TextFaults.{has_key_after}
use Rattle.warnings.proofs.text_faults.has_key.Given as goal

-- what is left decides
abbrev pub invariant-loop-first : goal.invariant-loop-first
invariant-loop-first l = has_key_after l.is_inside l.rest ≡ has_key_after false l.text

abbrev pub decreases-loop-first : goal.decreases-loop-first
decreases-loop-first l = length l.rest
