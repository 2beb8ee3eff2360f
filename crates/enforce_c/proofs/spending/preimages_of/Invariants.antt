use Rattle.std.proofs.Common.{◌≡◌, take}
use Rattle.enforce_c.specs.Spent.{preimages_in}
use Rattle.enforce_c.proofs.spending.preimages_of.Given as goal

abbrev pub invariant-loop-row : goal.invariant-loop-row
invariant-loop-row l = l.preimages.items ≡ preimages_in (take l.row-index l.rows)
