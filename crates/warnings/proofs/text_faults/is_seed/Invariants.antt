use Rattle.std.proofs.Common.{◌≡◌, ◌+◌, ◌≤◌, drop}
use Rattle.warnings.specs.TextFaults.{has_words}
use Rattle.warnings.proofs.text_faults.is_seed.Given as goal

-- what is left decides
abbrev pub invariant-loop-byte : goal.invariant-loop-byte
invariant-loop-byte l = (has_words l.size l.count (drop l.byte-index l.text) ≡ has_words 0 0 l.text) × (l.size + l.count ≤ l.byte-index)
