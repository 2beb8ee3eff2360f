use Rattle.std.proofs.Common.{◌≡◌, map, reverse}
use Rattle.paths.specs.Listing.{greatest_age_in}
use Rattle.paths.proofs.greatest_locks.greatest_age.Given as goal

abbrev pub invariant-loop-stated : goal.invariant-loop-stated
invariant-loop-stated l = l.age ≡ greatest_age_in (reverse (map (λ s. s.now) l.yielded))
