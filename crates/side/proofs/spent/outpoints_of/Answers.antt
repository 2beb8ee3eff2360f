use Rattle.std.proofs.Common.{ap, ◌∙◌, arith}
use Rattle.std.specs.List.{list_any}
use Rattle.std.specs.BTreeSet.{contains}
use Rattle.tx.specs.Fields.{Transaction}
use Rattle.chain.specs.Blocks.{names}
use Rattle.chain.specs.Indexing.{outpoint_cmp}
use Rattle.side.specs.Marks.{is_marked}
use Rattle.side.proofs.SpentPlaces.{tx_added}
use Rattle.side.proofs.spent.outpoints_of.Goals as goal

pub loop-confirmed-preserved : goal.loop-confirmed-preserved
loop-confirmed-preserved c =
    tx_added (is_marked c.args.marks.now.first.items c.args.marks.now.second.items) (contains outpoint_cmp c.loop-confirmed.outpoints) (contains outpoint_cmp c.insert_all.new.outpoints)
    c.args.txs.now c.loop-confirmed.confirmed-index _ c.confirmed-item.result c.inputs.result.now
    (λ o. list_any (names o) c.args.txs.now) (omega arith) c.confirmed-item.is (c.inputs.ensures.value ∙ ap (λ (t : Transaction). t.inputs) c.tx.ensures) c.in_ok-insert_all.ensures c.loop-confirmed.invariant
