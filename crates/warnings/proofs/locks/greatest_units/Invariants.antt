use Rattle.std.proofs.Common.{◌≡◌, map, reverse}
use Rattle.warnings.specs.Locks.{greatest_units}
use Rattle.warnings.proofs.locks.greatest_units.Given as goal

-- those that came are the last ones
abbrev pub invariant-loop-stated : goal.invariant-loop-stated
invariant-loop-stated l = l.units ≡ greatest_units (reverse (map (λ s. s.now) l.yielded))
