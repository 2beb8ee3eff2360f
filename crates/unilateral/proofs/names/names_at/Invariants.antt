use Rattle.std.proofs.Common.{◌≡◌, ◌++◌, map, drop}
use Rattle.unilateral.specs.Names.{name_at}
use Rattle.unilateral.proofs.names.names_at.Given as goal

-- what is left gives the whole
abbrev pub invariant-loop-index : goal.invariant-loop-index
invariant-loop-index l = l.names.items ++ map (name_at l.commitment l.funding_keys l.tx) (drop l.index-index l.indices) ≡ map (name_at l.commitment l.funding_keys l.tx) l.indices
