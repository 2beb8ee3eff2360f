use Rattle.std.proofs.Common.{[], ◌∷◌, map, refl, ap}
use Rattle.sha2.specs.Sha256.{sha256}
use Rattle.trace.proofs.Made.{one_more, none_left}
use Rattle.trace.proofs.dumps.claims.hashes_of.Goals as goal

pub loop-preimage-preserved : goal.loop-preimage-preserved
loop-preimage-preserved c =
    one_more (map sha256) (λ x. sha256 x ∷ []) (λ x xs. refl) c.args.preimages.now c.loop-preimage.preimage-index _ _ _ _ _ c.loop-preimage-test.true (ap (λ h. h ∷ []) c.sha256.ensures) c.in_ok-push.ensures.items c.loop-preimage.invariant

pub returns : goal.returns
returns c = none_left (map sha256) refl c.args.preimages.now c.loop-preimage.preimage-index _ _ c.loop-preimage-test.false c.loop-preimage.invariant
