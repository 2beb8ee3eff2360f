-- What is left, put onto the lists so far, is the whole; and each claim so far is ready.
use Rattle.std.proofs.Common.{◌≡◌, drop, take}
use Rattle.std.specs.List.{AllByRecursion}
use Rattle.enforce_c.specs.ClaimLists.{with_claims, IsReady}
use Rattle.enforce_c.proofs.claim_lists.ClaimLists.push_claims.Given as goal

abbrev pub invariant-loop-claim : goal.invariant-loop-claim
invariant-loop-claim l = record {
  lists : with_claims (drop l.claim-index l.claims) l.self ≡ with_claims l.claims l.initial.self;
  ready : AllByRecursion IsReady (take l.claim-index l.claims);
}
