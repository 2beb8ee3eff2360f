use Rattle.std.proofs.Common.{◌≡◌}
use Rattle.std.specs.List.{list_any}
use Rattle.std.specs.BTreeSet.{contains}
use Rattle.chain.specs.Blocks.{names}
use Rattle.chain.specs.Indexing.{outpoint_cmp}
use Rattle.side.specs.Marks.{is_marked}
use Rattle.side.proofs.SpentPlaces.{of_marked}
use Rattle.side.proofs.spent.marked_in.Goals as goal

pub returns-in_ok-outpoints_of-in-Some : goal.returns-in_ok-outpoints_of-in-Some
returns-in_ok-outpoints_of-in-Some c =
    of_marked (is_marked c.in-Some.marks.now.first.items c.in-Some.marks.now.second.items) (λ o. contains outpoint_cmp c.in_ok-outpoints_of-in-Some.field-0 o ≡ list_any (names o) c.args.txs.now)
    c.args.fundings.now c.in-Some.ensures c.in_ok-outpoints_of-in-Some.ensures
