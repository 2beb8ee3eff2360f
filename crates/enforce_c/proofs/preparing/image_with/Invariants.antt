-- The hash among those that are left is that among all.
use Rattle.std.proofs.Common.{◌≡◌, drop}
use Rattle.enforce_c.specs.Prepared.{image_with}
use Rattle.enforce_c.proofs.preparing.image_with.Given as goal

abbrev pub invariant-loop-preimage : goal.invariant-loop-preimage
invariant-loop-preimage l = image_with l.hash (drop l.preimage-index l.preimages) ≡ image_with l.hash l.preimages
