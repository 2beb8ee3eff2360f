use Rattle.std.proofs.Common.{◌||◌, arith}
use Rattle.std.specs.BTreeSet.{contains}
use Rattle.chain.specs.Indexing.{outpoint_cmp}
use Rattle.sights.specs.Sights.{among}
use Rattle.sights.proofs.Claimed.{input_added}
use Rattle.sights.proofs.telling.insert_all.Goals as goal

pub loop-input-preserved : goal.loop-input-preserved
loop-input-preserved c =
    input_added (contains outpoint_cmp c.loop-input.taken) (contains outpoint_cmp c.insert.new.self) c.args.inputs.now c.loop-input.input-index _ c.input-item.result
    (λ o. among o c.args.inputs.now || contains outpoint_cmp c.args.taken.now o) (omega arith) c.input-item.is c.in_ok-insert.ensures.updates.0 c.loop-input.invariant
