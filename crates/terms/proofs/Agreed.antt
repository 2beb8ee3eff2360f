-- Terms are determined by their fields, and two sides agree on proposed ones exactly where the terms
-- can be made.
use Rattle.std.proofs.Common.{◌≡◌, ◌≤◌, ◌<◌, ◌+◌, ◌*◌, ◌^◌, Bool, true, false, true≢false, Option, Some, None, refl, sym, ap, ◌∙◌, subst}
use Rattle.std.specs.Prelude.{◌==◌, ◌&&◌, nat_le, nat_lt, is_some}
use Rattle.std.proofs.lemmas.Bool.{and_from, and_parts, le-leb, leb-true, lt-ltb, eq-eqb, eqb-true}
use Rattle.std.proofs.Math.Bridge.{le_prop}
use Rattle.std.proofs.Math.Nat.{ℕ_set}
use mathlib.Core.HLevel.{is_prop→PathP}
use Rattle.tx.specs.declared.limits.TheConstants.{MAX_VALUE}
use Rattle.tx.specs.declared.input.OutPoint.{OutPoint}
use Rattle.terms.specs.declared.amounts.TheConstants.{MSAT_PER_SAT}
use Rattle.terms.specs.declared.agreement.BaseKeys.{BaseKeys}
use Rattle.terms.specs.declared.agreement.Party.{Party}
use Rattle.terms.specs.declared.agreement.Terms.{Terms}
use Rattle.terms.specs.declared.proposals.ProposedTerms.{ProposedTerms}
use Rattle.terms.specs.Agreement.{CanAgree, HasFields}
use Rattle.terms.specs.Proposals.{can_agree, party_of, terms_with, terms_if, agreed_terms}

-- what the type of terms keeps has one proof
pub same_terms : (t u : Terms) → HasFields t u.funding u.capacity_sat u.opener u.feerate_per_kw u.a u.b → t ≡ u
same_terms t u h =
    λ i. record {
      funding = h.funding_is i;
      capacity_sat = h.capacity_is i;
      opener = h.opener_is i;
      feerate_per_kw = h.feerate_is i;
      a = h.a_is i;
      b = h.b_is i;
      limited = is_prop→PathP (λ j. h.capacity_is j ≤ MAX_VALUE) (λ j. le_prop) t.limited u.limited i;
      whole = is_prop→PathP (λ j. (h.a_is j).start_msat + (h.b_is j).start_msat ≡ MSAT_PER_SAT * h.capacity_is j) (λ j. ℕ_set _ _) t.whole u.whole i;
      short_a = is_prop→PathP (λ j. (h.a_is j).delay_blocks < 2 ^ 16) (λ j. le_prop) t.short_a u.short_a i;
      short_b = is_prop→PathP (λ j. (h.b_is j).delay_blocks < 2 ^ 16) (λ j. le_prop) t.short_b u.short_b i;
    }

agrees : (t : ProposedTerms) → CanAgree t.capacity_sat t.a.start_msat t.b.start_msat → t.a.delay_blocks < 2 ^ 16 → t.b.delay_blocks < 2 ^ 16 → can_agree t ≡ true
agrees t h a b =
    and_from _ _
    (and_from _ _
    (and_from (nat_le t.capacity_sat MAX_VALUE) _ (le-leb t.capacity_sat MAX_VALUE h.limited) (eq-eqb (t.a.start_msat + t.b.start_msat) (MSAT_PER_SAT * t.capacity_sat) h.whole))
    (lt-ltb t.a.delay_blocks (2 ^ 16) a))
    (lt-ltb t.b.delay_blocks (2 ^ 16) b)

can : (t : ProposedTerms) → can_agree t ≡ true → CanAgree t.capacity_sat t.a.start_msat t.b.start_msat
can t h =
    let last = and_parts (nat_le t.capacity_sat MAX_VALUE && t.a.start_msat + t.b.start_msat == MSAT_PER_SAT * t.capacity_sat && nat_lt t.a.delay_blocks (2 ^ 16)) (nat_lt t.b.delay_blocks (2 ^ 16)) h in
    let front = and_parts (nat_le t.capacity_sat MAX_VALUE && t.a.start_msat + t.b.start_msat == MSAT_PER_SAT * t.capacity_sat) (nat_lt t.a.delay_blocks (2 ^ 16)) last.0 in
    let parts = and_parts (nat_le t.capacity_sat MAX_VALUE) (t.a.start_msat + t.b.start_msat == MSAT_PER_SAT * t.capacity_sat) front.0 in
    record { limited = leb-true t.capacity_sat MAX_VALUE parts.0; whole = eqb-true (t.a.start_msat + t.b.start_msat) (MSAT_PER_SAT * t.capacity_sat) parts.1 }

pub terms_are : (funding : OutPoint) (a b : BaseKeys) (p : ProposedTerms) (t : Terms) → CanAgree p.capacity_sat p.a.start_msat p.b.start_msat
    → HasFields t funding p.capacity_sat p.opener p.feerate_per_kw (party_of p.a a) (party_of p.b b) → Some t ≡ agreed_terms funding a b p
unfolding agreed_terms
terms_are funding a b p t agreed fields = go (can_agree p) refl
  where
    go : (r : Bool) (h : can_agree p ≡ r) → Some t ≡ terms_if funding a b p r h
    go true h = ap Some (same_terms t (terms_with funding a b p h) fields)
    go false h =
        absurd (true≢false (sym (agrees p agreed (subst (λ (x : Party). x.delay_blocks < 2 ^ 16) fields.a_is t.short_a) (subst (λ (x : Party). x.delay_blocks < 2 ^ 16) fields.b_is t.short_b)) ∙ h))

no_terms : (funding : OutPoint) (a b : BaseKeys) (p : ProposedTerms) → (CanAgree p.capacity_sat p.a.start_msat p.b.start_msat → ⊥) → None ≡ agreed_terms funding a b p
unfolding agreed_terms
no_terms funding a b p cannot = go (can_agree p) refl
  where
    go : (r : Bool) (h : can_agree p ≡ r) → None ≡ terms_if funding a b p r h
    go true h = absurd (cannot (can p h))
    go false h = refl

-- there are terms exactly if the sides can agree
pub some_terms : (funding : OutPoint) (a b : BaseKeys) (p : ProposedTerms) (r : Option Terms) → r ≡ agreed_terms funding a b p → is_some r ≡ can_agree p
unfolding agreed_terms
some_terms funding a b p r e = ap is_some e ∙ go (can_agree p) refl
  where
    go : (x : Bool) (h : can_agree p ≡ x) → is_some (terms_if funding a b p x h) ≡ x
    go true h = refl
    go false h = refl

-- of two parties that are these
module _ (funding : OutPoint) (a b : BaseKeys) (p : ProposedTerms) (of_a of_b : Party) (ea : of_a ≡ party_of p.a a) (eb : of_b ≡ party_of p.b b) where
  pub made_of : (t : Terms) → CanAgree p.capacity_sat of_a.start_msat of_b.start_msat → HasFields t funding p.capacity_sat p.opener p.feerate_per_kw of_a of_b → Some t ≡ agreed_terms funding a b p
  made_of t agreed fields =
      terms_are funding a b p t
      (subst (λ (x : Party). CanAgree p.capacity_sat x.start_msat p.b.start_msat) ea (subst (λ (x : Party). CanAgree p.capacity_sat of_a.start_msat x.start_msat) eb agreed))
      (subst (λ (x : Party). HasFields t funding p.capacity_sat p.opener p.feerate_per_kw x (party_of p.b b)) ea (subst (λ (x : Party). HasFields t funding p.capacity_sat p.opener p.feerate_per_kw of_a x) eb fields))

  pub none_of : (CanAgree p.capacity_sat of_a.start_msat of_b.start_msat → ⊥) → None ≡ agreed_terms funding a b p
  none_of cannot =
      no_terms funding a b p
      (λ h. cannot (subst (λ (x : Party). CanAgree p.capacity_sat x.start_msat of_b.start_msat) (sym ea) (subst (λ (x : Party). CanAgree p.capacity_sat p.a.start_msat x.start_msat) (sym eb) h)))
