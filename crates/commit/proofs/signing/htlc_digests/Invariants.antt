use Rattle.std.proofs.Common.{◌≡◌, ◌++◌, map, drop}
use Rattle.commit.specs.Commitments.{htlcs_from}
use Rattle.commit.specs.Signing.{htlc_digest}
use Rattle.commit.proofs.signing.htlc_digests.Given as goal

-- what is left gives the whole
abbrev pub invariant-loop-index : goal.invariant-loop-index
invariant-loop-index l = l.digests.items ++ map (htlc_digest l.commitment) (htlcs_from l.index (drop l.index l.outputs)) ≡ map (htlc_digest l.commitment) (htlcs_from 0 l.outputs)
