use Rattle.std.proofs.Common.{◌≡◌, drop}
use Rattle.publish.specs.Published.{preimage_among}
use Rattle.publish.proofs.preimages.preimage_among.Given as goal

abbrev pub invariant-loop-preimage : goal.invariant-loop-preimage
invariant-loop-preimage l = preimage_among (drop l.preimage-index l.preimages) l.hash ≡ preimage_among l.preimages l.hash
