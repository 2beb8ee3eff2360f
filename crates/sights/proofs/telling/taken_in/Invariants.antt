use Rattle.std.proofs.Common.{◌≡◌, ◌||◌, drop}
use Rattle.std.specs.BTreeSet.{contains}
use Rattle.tx.specs.declared.input.OutPoint.{OutPoint}
use Rattle.chain.specs.Indexing.{outpoint_cmp}
use Rattle.sights.specs.Sights.{was_taken}
use Rattle.sights.proofs.telling.taken_in.Given as goal

-- what is left, or in the set, is the whole
abbrev pub invariant-loop-entry : goal.invariant-loop-entry
invariant-loop-entry l = (o : OutPoint) → (was_taken o (drop l.entry-index l.sighted) || contains outpoint_cmp l.taken o) ≡ was_taken o l.sighted
