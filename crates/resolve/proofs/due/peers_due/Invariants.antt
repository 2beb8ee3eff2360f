use Rattle.std.proofs.Common.{ℕ}
use Rattle.penalty.proofs.Collecting.{Collects}
use Rattle.resolve.specs.Due.{peers_on}
use Rattle.resolve.proofs.due.peers_due.Given as goal

-- what is left gives the whole
abbrev pub invariant-loop-index : goal.invariant-loop-index
invariant-loop-index l = (k : ℕ) × Collects (peers_on l.known l.theirs) l.theirs l.index l.outputs k l.claims.items
