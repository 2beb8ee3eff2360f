use Rattle.std.proofs.Common.{[], nat_cmp, arith, refl}
use Rattle.std.specs.Cmp.Lexicographic.{slice_cmp}
use Rattle.std.specs.BTreeMap.{get}
use Rattle.filling.proofs.Indexing.{next}
use Rattle.filling.proofs.preimages.indexed.Goals as goal

pub loop-preimage-preserved : goal.loop-preimage-preserved
loop-preimage-preserved c =
    next (get (slice_cmp nat_cmp) c.loop-preimage.by_hash) (get (slice_cmp nat_cmp) c.insert.new.self) c.args.given.now c.loop-preimage.preimage-index [] _ c.sha256.result (omega arith) refl (c.told-given c.loop-preimage.preimage-index (omega arith)) c.sha256.ensures c.in_ok-insert.ensures.updates.0 c.loop-preimage.invariant
