use Rattle.std.proofs.Common.{◌||◌, arith}
use Rattle.std.specs.BTreeSet.{contains}
use Rattle.chain.specs.Indexing.{outpoint_cmp}
use Rattle.side.specs.Marks.{is_marked}
use Rattle.side.proofs.SpentPlaces.{among, input_added}
use Rattle.side.proofs.spent.insert_all.Goals as goal

pub loop-input-preserved : goal.loop-input-preserved
loop-input-preserved c =
    input_added (is_marked c.args.marks.now.first.items c.args.marks.now.second.items) (contains outpoint_cmp c.loop-input.outpoints) (contains outpoint_cmp c.insert_if_marked.new.outpoints)
    c.args.inputs.now c.loop-input.input-index _ c.input-item.result
    (λ o. among o c.args.inputs.now || contains outpoint_cmp c.args.outpoints.now o) (omega arith) c.input-item.is c.in_ok-insert_if_marked.ensures c.loop-input.invariant
