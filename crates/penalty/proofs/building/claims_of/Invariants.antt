use Rattle.penalty.specs.Claimable.{claims_on}
use Rattle.penalty.proofs.Collecting.{Collects}
use Rattle.penalty.proofs.building.claims_of.Given as goal

-- what is left gives the whole
abbrev pub invariant-loop-index : goal.invariant-loop-index
invariant-loop-index l = Collects (claims_on l.commitment) l.commitment l.index l.outputs l.htlcs l.claims.items
