use Rattle.std.proofs.Common.{List}
use Rattle.penalty.specs.Claimable.{Claimable}
use Rattle.penalty.specs.Sets.{AreClaimsOn}
use Rattle.unilateral.specs.Claims.{second_stage_in}
use Rattle.unilateral.proofs.Walks.{Stages}
use Rattle.unilateral.proofs.reading.push_second_stages.Given as goal

-- what is left gives the whole
abbrev pub invariant-loop-expiry : goal.invariant-loop-expiry
invariant-loop-expiry l = (done : List Claimable) → AreClaimsOn done l.initial.claims.items
    → Stages (second_stage_in l.commitment l.feerate_per_kw l.htlc l.place) l.expiry-index l.expiries done l.claims.items
