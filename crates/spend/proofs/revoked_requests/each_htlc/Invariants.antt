use Rattle.spend.specs.RevokedRequests.{htlc_of}
use Rattle.spend.proofs.Elements.{SoFar}
use Rattle.spend.proofs.revoked_requests.each_htlc.Given as goal

abbrev pub invariant-loop-value : goal.invariant-loop-value
invariant-loop-value l = SoFar htlc_of l.htlcs.items l.values l.value-index
