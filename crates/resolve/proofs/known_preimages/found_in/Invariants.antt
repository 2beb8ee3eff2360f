use Rattle.std.proofs.Common.{◌≡◌, drop}
use Rattle.resolve.specs.Preimages.{first_of}
use Rattle.resolve.proofs.known_preimages.found_in.Given as goal

abbrev pub invariant-loop-preimage : goal.invariant-loop-preimage
invariant-loop-preimage l = first_of (drop l.preimage-index l.preimages) l.hash ≡ first_of l.preimages l.hash
