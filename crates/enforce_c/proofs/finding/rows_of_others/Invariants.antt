use Rattle.std.proofs.Common.{◌≡◌, map, take}
use Rattle.enforce_c.specs.Found.{other_row}
use Rattle.enforce_c.proofs.finding.rows_of_others.Given as goal

abbrev pub invariant-loop-index : goal.invariant-loop-index
invariant-loop-index l = l.rows.items ≡ map (other_row l.commitment l.funding_keys l.tx) (take l.index-index l.others)
