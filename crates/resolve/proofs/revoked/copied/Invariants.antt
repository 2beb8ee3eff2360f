use Rattle.std.proofs.Common.{◌≡◌, take}
use Rattle.resolve.proofs.revoked.copied.Given as goal

abbrev pub invariant-loop-commitment : goal.invariant-loop-commitment
invariant-loop-commitment l = l.copies.items ≡ take l.commitment-index l.commitments
