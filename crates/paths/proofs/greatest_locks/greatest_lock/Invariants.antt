use Rattle.std.proofs.Common.{◌≡◌, map, reverse}
use Rattle.paths.specs.Listing.{greatest_lock_in}
use Rattle.paths.proofs.greatest_locks.greatest_lock.Given as goal

abbrev pub invariant-loop-stated : goal.invariant-loop-stated
invariant-loop-stated l = l.lock ≡ greatest_lock_in (reverse (map (λ s. s.now) l.yielded))
