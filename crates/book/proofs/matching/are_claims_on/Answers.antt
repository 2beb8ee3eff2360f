use Rattle.std.proofs.Common.{rules, ◌≡◌, ◌==◌, ◌<◌, ◌≤◌, length, true, false, ◌∷◌, ◌∙◌}
use Rattle.penalty.specs.Sets.{claimed_by}
use Rattle.book.specs.Penalties.{is_claim_on}
use Rattle.book.proofs.Alike.{missed, differs, goes_on, ends}
use Rattle.book.proofs.Sets.{steps, arrives, nothing_left}
use Rattle.book.proofs.matching.are_claims_on.Goals as goal

pub returns-in_default-clause-value : goal.returns-in_default-clause-value
returns-in_default-clause-value c =
    let nothing : length c.loop-one.others.now ≡ 0 = search rules in
    let within : c.loop-one.one-index < length c.args.kept.now = search rules in
    missed (λ k x. is_claim_on (claimed_by k) x) c.args.kept.now c.args.claims.now c.loop-one.one-index _ c.one-item.result c.loop-one.others.now within c.one-item.is nothing c.loop-one.invariant.0

pub returns-then-not-is_claim_on-clause-value : goal.returns-then-not-is_claim_on-clause-value
returns-then-not-is_claim_on-clause-value c =
    let both : c.loop-one.others.now ≡ c.in-Some.claim.now ∷ c.in-Some.rest.now = search rules in
    let within : c.loop-one.one-index < length c.args.kept.now = search rules in
    let unlike : is_claim_on (claimed_by c.one-item.result) c.in-Some.claim.now ≡ false = search rules in
    differs (λ k x. is_claim_on (claimed_by k) x) c.args.kept.now c.args.claims.now c.loop-one.one-index _ c.one-item.result c.loop-one.others.now c.in-Some.claim.now c.in-Some.rest.now within
    c.one-item.is both unlike c.loop-one.invariant.0

pub loop-one-preserved : goal.loop-one-preserved
loop-one-preserved c =
    let both : c.loop-one.others.now ≡ c.in-Some.claim.now ∷ c.in-Some.rest.now = search rules in
    let within : c.loop-one.one-index < length c.args.kept.now = search rules in
    let alike : is_claim_on (claimed_by c.one-item.result) c.in-Some.claim.now ≡ true = search rules in
    let yes : c.is_claim_on.result ≡ true = search rules in (
      goes_on (λ k x. is_claim_on (claimed_by k) x) c.args.kept.now c.args.claims.now c.loop-one.one-index _ c.one-item.result c.loop-one.others.now c.in-Some.claim.now c.in-Some.rest.now within c.one-item.is both
          alike c.loop-one.invariant.0,
      steps c.args.kept.now c.args.claims.now c.loop-one.one-index _ c.one-item.result c.loop-one.others.now c.in-Some.claim.now c.in-Some.rest.now within c.one-item.is both
          (λ is_open. c.is_claim_on.ensures.exact is_open yes) c.loop-one.invariant.1,
    )

pub returns-clause-value : goal.returns-clause-value
returns-clause-value c =
    let empty : c.is_empty.result ≡ (length c.loop-one.others.now == 0) = search rules in
    let past : length c.args.kept.now ≤ c.loop-one.one-index = search rules in
    empty ∙ ends (λ k x. is_claim_on (claimed_by k) x) c.args.kept.now c.args.claims.now c.loop-one.one-index c.loop-one.others.now past c.loop-one.invariant.0

pub returns-clause-exact : goal.returns-clause-exact
returns-clause-exact c = λ all_open yes.
    let past : length c.args.kept.now ≤ c.loop-one.one-index = search rules in
    let empty : c.is_empty.result ≡ (length c.loop-one.others.now == 0) = search rules in
    arrives c.args.kept.now c.args.claims.now c.loop-one.one-index c.loop-one.others.now past (nothing_left c.loop-one.others.now _ empty yes) c.loop-one.invariant.1 all_open
