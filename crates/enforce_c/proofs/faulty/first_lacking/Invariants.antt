-- The first of the claims that are left is that of all.
use Rattle.std.proofs.Common.{◌≡◌, drop}
use Rattle.enforce_c.specs.Faulty.{lacks, first_at}
use Rattle.enforce_c.proofs.faulty.first_lacking.Given as goal

abbrev pub invariant-loop-index : goal.invariant-loop-index
invariant-loop-index l = first_at (lacks l.hashes) l.index (drop l.index l.claims) ≡ first_at (lacks l.hashes) 0 l.claims
