use Rattle.unilateral.proofs.Walks.{Gathers}
use Rattle.unilateral.proofs.reading.claims_on_outputs.Given as goal

-- what is left gives the whole
abbrev pub invariant-loop-index : goal.invariant-loop-index
invariant-loop-index l = Gathers l.close l.tx l.index l.outputs l.claims.items
