use Rattle.penalty.proofs.Collecting.{Collects}
use Rattle.resolve.specs.Due.{owners_on}
use Rattle.resolve.proofs.due.owners_due.Given as goal

-- what is left gives the whole
abbrev pub invariant-loop-index : goal.invariant-loop-index
invariant-loop-index l = Collects (owners_on l.known l.own.commitment) l.own.commitment l.index l.outputs l.htlcs l.claims.items
