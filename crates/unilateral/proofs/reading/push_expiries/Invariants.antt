use Rattle.std.proofs.Common.{◌≡◌, drop}
use Rattle.unilateral.specs.Claims.{with_expiries}
use Rattle.unilateral.proofs.reading.push_expiries.Given as goal

-- what is left gives the whole
abbrev pub invariant-loop-htlc : goal.invariant-loop-htlc
invariant-loop-htlc l = with_expiries l.hash l.expiries.items (drop l.htlc-index l.htlcs) ≡ with_expiries l.hash l.initial.expiries.items l.htlcs
