use Rattle.std.proofs.Common.{[], refl, nat_cmp, arith, ◌∙◌}
use Rattle.std.specs.Cmp.Lexicographic.{slice_cmp}
use Rattle.std.specs.BTreeMap.{get}
use Rattle.resolve.proofs.Knowing.{next}
use Rattle.resolve.proofs.known_preimages.insert_all.Goals as goal

pub loop-preimage-preserved : goal.loop-preimage-preserved
loop-preimage-preserved c =
    λ h.
    next (get (slice_cmp nat_cmp) c.loop-preimage.by_hash) (get (slice_cmp nat_cmp) c.insert_if_new.new.by_hash) c.args.more.now c.loop-preimage.preimage-index [] _ (omega arith) refl c.in_ok-insert_if_new.ensures h
    ∙ c.loop-preimage.invariant h
