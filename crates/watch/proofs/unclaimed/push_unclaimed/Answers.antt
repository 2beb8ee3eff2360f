use Rattle.std.proofs.Common.{rules, ◌≡◌, ◌++◌, ◌∷◌, [], List, map, subst, arith}
use Rattle.std.specs.List.{AllByRecursion}
use Rattle.std.specs.Vec.Iter.{into_iter_items}
use Rattle.std.proofs.lemmas.List.{nil_from_length}
use Rattle.claim.specs.Claims.{ClaimParts, IsAccepted}
use Rattle.penalty.specs.Sets.{claimed_by}
use Rattle.watch.specs.Watching.{given_at, unclaimed}
use Rattle.watch.proofs.Walks.{longer}
use Rattle.watch.proofs.Giving.{claims_step, given_step, accepted_step, claims_end, given_end}
use Rattle.watch.proofs.unclaimed.push_unclaimed.Goals as goal

pub loop-claim-preserved : goal.loop-claim-preserved
loop-claim-preserved c =
    let e : into_iter_items c.loop-claim.claim-iterator ≡ c.in-Some.claim ∷ into_iter_items c.next.new.self = search rules in
    let rest = subst (AllByRecursion IsAccepted) e c.loop-claim.invariant.rest in
    record {
      claims =
          claims_step c.args.height c.loop-claim.claims.items c.push_if_unclaimed.new.claims.items c.loop-claim.given.items c.push_if_unclaimed.new.given.items c.in-Some.claim
          (into_iter_items c.next.new.self) _ c.in_ok-push_if_unclaimed.ensures.claims c.in_ok-push_if_unclaimed.ensures.given
          (subst (λ (xs : List ClaimParts). map claimed_by c.loop-claim.claims.items ++ unclaimed c.args.height c.loop-claim.given.items (map claimed_by xs)
          ≡ map claimed_by c.args.claims.now.items ++ unclaimed c.args.height c.args.given.now.items (map claimed_by c.args.due.items)) e c.loop-claim.invariant.claims);
      given =
          given_step c.args.height c.loop-claim.given.items c.push_if_unclaimed.new.given.items (claimed_by c.in-Some.claim) (map claimed_by (into_iter_items c.next.new.self)) _
          c.in_ok-push_if_unclaimed.ensures.given
          (subst (λ (xs : List ClaimParts). c.loop-claim.given.items ++ map (given_at c.args.height) (unclaimed c.args.height c.loop-claim.given.items (map claimed_by xs))
          ≡ c.args.given.now.items ++ map (given_at c.args.height) (unclaimed c.args.height c.args.given.now.items (map claimed_by c.args.due.items))) e c.loop-claim.invariant.given);
      kept = longer _ _ _ _ c.loop-claim.invariant.kept c.in_ok-push_if_unclaimed.ensures.given;
      rest = rest.1;
      accepted =
          λ a. accepted_step c.loop-claim.claims.items c.push_if_unclaimed.new.claims.items c.loop-claim.given.items c.in-Some.claim c.in_ok-push_if_unclaimed.ensures.claims rest.0
          (c.loop-claim.invariant.accepted a);
    }

pub returns-clause-claims : goal.returns-clause-claims
returns-clause-claims c =
    let e : into_iter_items c.loop-claim.claim-iterator ≡ [] = nil_from_length (into_iter_items c.loop-claim.claim-iterator) (omega (arith, c.in-None.ensures.steps.0)) in
    claims_end c.args.height c.loop-claim.claims.items _ c.loop-claim.given.items _ e c.loop-claim.invariant.claims

pub returns-clause-given : goal.returns-clause-given
returns-clause-given c =
    let e : into_iter_items c.loop-claim.claim-iterator ≡ [] = nil_from_length (into_iter_items c.loop-claim.claim-iterator) (omega (arith, c.in-None.ensures.steps.0)) in
    given_end c.args.height _ c.loop-claim.given.items _ e c.loop-claim.invariant.given
