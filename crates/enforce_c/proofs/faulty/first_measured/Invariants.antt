-- The first of the claims that are left is that of all.
use Rattle.std.proofs.Common.{◌≡◌, drop}
use Rattle.filling.specs.Spends.{is_measured}
use Rattle.enforce_c.specs.Faulty.{first_at}
use Rattle.enforce_c.proofs.faulty.first_measured.Given as goal

abbrev pub invariant-loop-index : goal.invariant-loop-index
invariant-loop-index l = first_at is_measured l.index (drop l.index l.claims) ≡ first_at is_measured 0 l.claims
