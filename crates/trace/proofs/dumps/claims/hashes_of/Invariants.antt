use Rattle.std.proofs.Common.{◌≡◌, ◌++◌, drop, map}
use Rattle.sha2.specs.Sha256.{sha256}
use Rattle.trace.proofs.dumps.claims.hashes_of.Given as goal

abbrev pub invariant-loop-preimage : goal.invariant-loop-preimage
invariant-loop-preimage l = l.hashes.items ++ map sha256 (drop l.preimage-index l.preimages) ≡ map sha256 l.preimages
