use Rattle.std.proofs.Common.{ap, ◌∙◌, arith}
use Rattle.std.specs.BTreeSet.{contains}
use Rattle.tx.specs.Fields.{Transaction}
use Rattle.chain.specs.Indexing.{outpoint_cmp}
use Rattle.sights.specs.Sights.{was_taken}
use Rattle.sights.proofs.Claimed.{entry_added}
use Rattle.sights.proofs.telling.taken_in.Goals as goal

pub loop-entry-preserved : goal.loop-entry-preserved
loop-entry-preserved c =
    entry_added (contains outpoint_cmp c.loop-entry.taken) (contains outpoint_cmp c.insert_all.new.taken) c.args.sighted.now c.loop-entry.entry-index _ c.entry-item.result c.inputs.result.now
    (λ o. was_taken o c.args.sighted.now) (omega arith) c.entry-item.is (c.inputs.ensures.value ∙ ap (λ (t : Transaction). t.inputs) c.tx.ensures) c.in_ok-insert_all.ensures c.loop-entry.invariant
