-- Terms, openings and batches with equal parts are equal: what their types keep besides has one proof.
use Rattle.std.proofs.Common.{◌≡◌, ◌≤◌, ◌<◌, ℕ, ◌+◌, ◌*◌, ◌^◌, Bool, true, false, true≢false, List, length, Option, Some, None, refl, sym, ap, ◌∙◌, subst}
use Rattle.std.specs.Prelude.{◌↔◌, ◌&&◌, nat_le, nat_lt, IsSome, IfSome}
use Rattle.std.proofs.lemmas.Bool.{and_from, and_parts, le-leb, leb-true, lt-ltb, ltb-true, eq-eqb}
use Rattle.std.proofs.Math.Bridge.{le_prop}
use Rattle.std.proofs.Math.Nat.{ℕ_set}
use mathlib.Core.HLevel.{is_prop→PathP}
use mathlib.Core.List.{is_set as list_set}
use Rattle.tx.specs.declared.limits.TheConstants.{MAX_VALUE, MAX_INPUTS, MAX_OUTPUTS}
use Rattle.tx.specs.Parts.{Output}
use Rattle.terms.specs.declared.amounts.TheConstants.{MSAT_PER_SAT}
use Rattle.terms.specs.declared.sides.Side.TheVariants.{A, B}
use Rattle.terms.specs.declared.agreement.BaseKeys.{BaseKeys}
use Rattle.terms.specs.declared.agreement.Terms.{Terms}
use Rattle.terms.specs.Agreement.{CanAgree, party}
use Rattle.claim.specs.Claims.{ClaimParts}
use Rattle.texts.specs.declared.calls.PlainOpening.{PlainOpening}
use Rattle.terms.specs.declared.proposals.ProposedTerms.{ProposedTerms}
use Rattle.terms.specs.Proposals.{can_agree, terms_if, agreed_terms}
use Rattle.texts.specs.Calls.{are_within}
use Rattle.terms.specs.Bases.{IsSeedOf}
use Rattle.book.specs.Bounds.{CanRelease}
use Rattle.book.specs.Calls.{IsOpenedBy, IsBatchOf}
use Rattle.book_dump.specs.Openings.{bases_at, terms_with, terms_of, owns, opening_if, opening_of, batch_if, batch_of}
use Rattle.book.specs.declared.calls.Opening.{Opening}
use Rattle.book.specs.declared.calls.Batch.{Batch}

seed_prop : (seed : List ℕ) (bases : BaseKeys) → IsProp (IsSeedOf seed bases)
seed_prop seed bases = hlevel (list_set ℕ_set)

pub same_opening : (o u : Opening) → IsOpenedBy u.terms u.side u.seed u.first_point u.next_point u.token o → o ≡ u
same_opening o u h =
    λ i. record {
      terms = h.terms_is i;
      side = h.side_is i;
      seed = h.seed_is i;
      first_point = h.first_point_is i;
      next_point = h.next_point_is i;
      token = h.token_is i;
      own = is_prop→PathP (λ j. IsSeedOf (h.seed_is j) (party (h.side_is j) (h.terms_is j)).bases) (λ j. seed_prop _ _) o.own u.own i;
    }

pub same_batch : (b c : Batch) → IsBatchOf c.claims c.outputs c.preimages b → b ≡ c
same_batch b c h =
    λ i. record {
      claims = h.claims_is i;
      outputs = h.outputs_is i;
      preimages = h.preimages_is i;
      some = is_prop→PathP (λ j. 1 ≤ length (h.claims_is j)) (λ j. le_prop) b.some c.some i;
      inputs = is_prop→PathP (λ j. length (h.claims_is j) ≤ MAX_INPUTS) (λ j. le_prop) b.inputs c.inputs i;
      given = is_prop→PathP (λ j. length (h.outputs_is j) ≤ MAX_OUTPUTS) (λ j. le_prop) b.given c.given i;
    }

-- ---- what the constructors return

pub agrees : (t : ProposedTerms) → CanAgree t.capacity_sat t.a.start_msat t.b.start_msat → t.a.delay_blocks < 2 ^ 16 → t.b.delay_blocks < 2 ^ 16 → can_agree t ≡ true
agrees t h a b =
    and_from _ _
    (and_from _ _
    (and_from (nat_le t.capacity_sat MAX_VALUE) _ (le-leb t.capacity_sat MAX_VALUE h.limited) (eq-eqb (t.a.start_msat + t.b.start_msat) (MSAT_PER_SAT * t.capacity_sat) h.whole))
    (lt-ltb t.a.delay_blocks (2 ^ 16) a))
    (lt-ltb t.b.delay_blocks (2 ^ 16) b)

-- the terms of an opening, by whether the sides can agree on them
abbrev terms_by : (o : PlainOpening) (agreed : Bool) → can_agree o.terms ≡ agreed → Option Terms
terms_by o agreed h = terms_if o.funding (bases_at o.side A o) (bases_at o.side B o) o.terms agreed h

pub no_opening : (o : PlainOpening) → terms_of o ≡ None → None ≡ opening_of o
unfolding agreed_terms opening_of
no_opening o none = go (can_agree o.terms) refl none
  where
    go : (b : Bool) (h : can_agree o.terms ≡ b) → terms_by o b h ≡ None → None ≡ opening_if o b h
    go true h e = absurd (cc)
    go false h e = refl

pub opening_is : (o : PlainOpening) (t : Terms) (r : Option Opening) → terms_of o ≡ Some t → IsSome r ↔ IsSeedOf o.seed (party o.side t).bases
    → IfSome r (IsOpenedBy t o.side o.seed o.first_point o.next_point o.token) → r ≡ opening_of o
unfolding agreed_terms opening_of
opening_is o t r terms some parts = go (can_agree o.terms) refl terms r some parts
  where
    made : (h : can_agree o.terms ≡ true) (u : Terms) → terms_with o.side o h ≡ u → (r : Option Opening) → IsSome r ↔ IsSeedOf o.seed (party o.side u).bases
        → IfSome r (IsOpenedBy u o.side o.seed o.first_point o.next_point o.token) → r ≡ opening_if o true h
    made h u same None some parts = absurd (true≢false (sym (some.1 (subst (λ (v : Terms). IsSeedOf o.seed (party o.side v).bases) same (owns o.side o h)))))
    made h u same (Some x) some parts =
        ap Some
        (same_opening x (record { terms = terms_with o.side o h; side = o.side; seed = o.seed; first_point = o.first_point; next_point = o.next_point; token = o.token; own = owns o.side o h })
        (subst (λ (v : Terms). IsOpenedBy v o.side o.seed o.first_point o.next_point o.token x) (sym same) parts))

    go : (b : Bool) (h : can_agree o.terms ≡ b) → terms_by o b h ≡ Some t → (r : Option Opening) → IsSome r ↔ IsSeedOf o.seed (party o.side t).bases
        → IfSome r (IsOpenedBy t o.side o.seed o.first_point o.next_point o.token) → r ≡ opening_if o b h
    go true h e r some parts = let same : terms_with o.side o h ≡ t = cc in made h t same r some parts
    go false h e r some parts = absurd (cc)

pub within_batch : (b : Batch) → are_within (length b.claims) (length b.outputs) ≡ true
within_batch b = and_from _ _ (and_from _ _ (lt-ltb 0 (length b.claims) b.some) (le-leb (length b.claims) MAX_INPUTS b.inputs)) (le-leb (length b.outputs) MAX_OUTPUTS b.given)

pub batch_is : (claims : List ClaimParts) (outputs : List Output) (preimages : List (List ℕ)) (r : Option Batch) → IsSome r ↔ CanRelease claims outputs
    → IfSome r (IsBatchOf claims outputs preimages) → r ≡ batch_of claims outputs preimages
unfolding batch_of
batch_is claims outputs preimages r some parts = go (are_within (length claims) (length outputs)) refl r some parts
  where
    can : are_within (length claims) (length outputs) ≡ true → CanRelease claims outputs
    can h =
        let all = and_parts (nat_lt 0 (length claims) && nat_le (length claims) MAX_INPUTS) (nat_le (length outputs) MAX_OUTPUTS) h in
        let ends = and_parts (nat_lt 0 (length claims)) (nat_le (length claims) MAX_INPUTS) all.0 in
        record { some = ltb-true 0 (length claims) ends.0; inputs = leb-true (length claims) MAX_INPUTS ends.1; given = leb-true (length outputs) MAX_OUTPUTS all.1 }

    within : CanRelease claims outputs → are_within (length claims) (length outputs) ≡ true
    within h =
        and_from _ _ (and_from _ _ (lt-ltb 0 (length claims) h.some) (le-leb (length claims) MAX_INPUTS h.inputs)) (le-leb (length outputs) MAX_OUTPUTS h.given)

    go : (b : Bool) (h : are_within (length claims) (length outputs) ≡ b) (r : Option Batch) → IsSome r ↔ CanRelease claims outputs → IfSome r (IsBatchOf claims outputs preimages)
        → r ≡ batch_if claims outputs preimages b h
    go true h None some parts = absurd (true≢false (sym (some.1 (can h))))
    go true h (Some x) some parts = ap Some (same_batch x _ parts)
    go false h None some parts = refl
    go false h (Some x) some parts = absurd (true≢false (sym (within (some.0 refl)) ∙ h))
