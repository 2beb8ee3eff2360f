use Rattle.std.proofs.Common.{sym}
use Rattle.std.specs.BTreeSet.{contains}
use Rattle.chain.specs.Indexing.{outpoint_cmp}
use Rattle.side.specs.Marks.{is_marked}
use Rattle.side.proofs.SpentPlaces.{passed}
use Rattle.side.proofs.spent.insert_if_marked.Goals as goal

pub returns-else-has : goal.returns-else-has
returns-else-has c =
    λ o within. passed (is_marked c.args.marks.now.first.items c.args.marks.now.second.items) (contains outpoint_cmp c.args.outpoints.now) c.args.outpoint.now o (sym c.if-has.ensures) within
