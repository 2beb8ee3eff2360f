use Rattle.std.proofs.Common.{◌≡◌, ◌++◌, drop}
use Rattle.std.specs.List.{filter_map}
use Rattle.trace.specs.Claims.{htlc_claim}
use Rattle.trace.proofs.dumps.claims.push_htlcs.Given as goal

abbrev pub invariant-loop-htlc : goal.invariant-loop-htlc
invariant-loop-htlc l =
    l.claims.items ++ filter_map (htlc_claim l.close l.hashes l.direction) (drop l.htlc-index l.htlcs)
    ≡ l.fn.claims.items ++ filter_map (htlc_claim l.close l.hashes l.direction) l.htlcs
