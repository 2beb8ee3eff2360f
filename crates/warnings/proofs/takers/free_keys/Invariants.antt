use Rattle.std.proofs.Common.{◌≡◌, ◌+◌, ◌≤◌, drop}
use Rattle.warnings.specs.Takers.{free_keys}
use Rattle.warnings.proofs.takers.free_keys.Given as goal

-- what is left adds the rest
abbrev pub invariant-loop-key : goal.invariant-loop-key
invariant-loop-key l = (l.count + free_keys l.facts (drop l.key-index l.keys) ≡ free_keys l.facts l.keys) × (l.count ≤ l.key-index)
