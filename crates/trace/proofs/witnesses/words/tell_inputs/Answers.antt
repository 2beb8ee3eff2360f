use Rattle.std.proofs.Common.{refl, arith, sym}
use Rattle.std.proofs.lemmas.Option.{slice_get_read}
use Rattle.trace.proofs.witnesses.words.tell_inputs.Goals.{in-Some+then-tell_input-eq1, in-Some+else-tell_input-eq1, in_default}
use Rattle.trace.proofs.witnesses.words.tell_inputs.Goals as goal

pub tell_input-requires-clause-indexed : goal.tell_input-requires-clause-indexed
tell_input-requires-clause-indexed g c =
    rw (sym c.inputs-inputs.ensures.value) (slice_get_read c.inputs-inputs.result.now _ c.loop-index.index _ refl c.loop-index-test.true c.index-inputs-index.is)

pub loop-index-preserved : goal.loop-index-preserved
loop-index-preserved g c =
    elim c.match-get.branch [ in-Some+then-tell_input-eq1 w ↦ omega (arith, w.status-is) | in-Some+else-tell_input-eq1 w ↦ omega (arith, w.status-is, c.loop-index.invariant) | in_default w ↦ omega (arith, w.status-is, c.loop-index.invariant) ]
