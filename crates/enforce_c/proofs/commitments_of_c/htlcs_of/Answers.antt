use Rattle.std.proofs.Common.{refl}
use Rattle.enforce_c.proofs.Commitments.{htlcs_next, faultless_next}
use Rattle.enforce_c.proofs.commitments_of_c.htlcs_of.Goals as goal

pub loop-index-preserved : goal.loop-index-preserved
loop-index-preserved c = record {
  faults = faultless_next c.args.rows.now c.loop-index.index _ _ c.loop-index-test.true refl c.in_ok-htlc_of.ensures.0 c.loop-index.invariant.faults;
  read = rw c.in_ok-push.ensures.items (htlcs_next c.args.rows.now c.loop-index.index _ _ c.loop-index.htlcs.items c.in_ok-htlc_of.field-0 c.loop-index-test.true refl c.loop-index.invariant.read c.in_ok-htlc_of.ensures.1);
}
