use Rattle.std.proofs.Common.{[], sym}
use Rattle.std.proofs.lemmas.List.{take_more, map-append, append-nil}
use Rattle.std.proofs.lemmas.List.Folds.{concat-append}
use Rattle.enforce_c.proofs.script_bytes.joined.Goals as goal

pub loop-part-preserved : goal.loop-part-preserved
loop-part-preserved c =
    rw (take_more c.args.parts.now c.loop-part.part-index (record { ref_ptr = (0, 0); now = [] }) c.loop-part-test.true, map-append, concat-append, append-nil, sym c.loop-part.invariant)
    c.in_ok-extend_from_slice.ensures.items
