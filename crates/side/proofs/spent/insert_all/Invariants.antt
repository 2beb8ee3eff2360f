use Rattle.std.proofs.Common.{◌≡◌, true, ◌||◌, drop}
use Rattle.std.specs.BTreeSet.{contains}
use Rattle.tx.specs.declared.input.OutPoint.{OutPoint}
use Rattle.chain.specs.Indexing.{outpoint_cmp}
use Rattle.side.specs.Marks.{is_marked}
use Rattle.side.proofs.SpentPlaces.{among}
use Rattle.side.proofs.spent.insert_all.Given as goal

-- what is left, or in the set, is the whole
abbrev pub invariant-loop-input : goal.invariant-loop-input
invariant-loop-input l =
    (o : OutPoint) → is_marked l.marks.first.items l.marks.second.items o ≡ true
    → (among o (drop l.input-index l.inputs) || contains outpoint_cmp l.outpoints o) ≡ (among o l.inputs || contains outpoint_cmp l.fn.outpoints o)
