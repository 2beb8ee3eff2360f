use Rattle.std.proofs.Common.{◌≡◌, true, ◌||◌, drop}
use Rattle.std.specs.List.{list_any}
use Rattle.std.specs.BTreeSet.{contains}
use Rattle.tx.specs.declared.input.OutPoint.{OutPoint}
use Rattle.chain.specs.Blocks.{names}
use Rattle.chain.specs.Indexing.{outpoint_cmp}
use Rattle.side.specs.Marks.{is_marked}
use Rattle.side.proofs.spent.outpoints_of.Given as goal

-- what is left, or in the set, is the whole
abbrev pub invariant-loop-confirmed : goal.invariant-loop-confirmed
invariant-loop-confirmed l =
    (o : OutPoint) → is_marked l.marks.first.items l.marks.second.items o ≡ true
    → (list_any (names o) (drop l.confirmed-index l.txs) || contains outpoint_cmp l.outpoints o) ≡ list_any (names o) l.txs
