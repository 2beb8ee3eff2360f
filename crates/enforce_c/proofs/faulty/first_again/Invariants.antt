-- The first of the claims that are left, where those so far stand before them, is that of all.
use Rattle.std.proofs.Common.{◌≡◌, [], take, drop}
use Rattle.enforce_c.specs.Faulty.{first_again}
use Rattle.enforce_c.proofs.faulty.first_again.Given as goal

abbrev pub invariant-loop-index : goal.invariant-loop-index
invariant-loop-index l = first_again (take l.index l.claims) (drop l.index l.claims) ≡ first_again [] l.claims
