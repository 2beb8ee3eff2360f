use Rattle.revoked.proofs.Walks.{Gathers}
use Rattle.revoked.proofs.reading.claims_on_outputs.Given as goal

-- what is left gives the whole
abbrev pub invariant-loop-index : goal.invariant-loop-index
invariant-loop-index l = Gathers l.revoked l.tx l.index l.outputs l.claims.items
