use Rattle.std.proofs.Common.{◌≡◌, ◌||◌, drop}
use Rattle.std.specs.BTreeSet.{contains}
use Rattle.tx.specs.declared.input.OutPoint.{OutPoint}
use Rattle.chain.specs.Indexing.{outpoint_cmp}
use Rattle.sights.specs.Sights.{among}
use Rattle.sights.proofs.telling.insert_all.Given as goal

-- what is left, or in the set, is the whole
abbrev pub invariant-loop-input : goal.invariant-loop-input
invariant-loop-input l = (o : OutPoint) → (among o (drop l.input-index l.inputs) || contains outpoint_cmp l.taken o) ≡ (among o l.inputs || contains outpoint_cmp l.fn.taken o)
