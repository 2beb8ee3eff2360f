use Rattle.std.proofs.Common.{◌≡◌, map, take}
use Rattle.sha2.specs.Sha256.{sha256}
use Rattle.enforce_c.proofs.faulty.hashes_of.Given as goal

abbrev pub invariant-loop-preimage : goal.invariant-loop-preimage
invariant-loop-preimage l = l.hashes.items ≡ map sha256 (take l.preimage-index l.preimages)
