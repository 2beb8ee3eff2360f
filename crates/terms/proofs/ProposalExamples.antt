-- Terms that two sides can agree on, and terms that differ from them by one.
use Rattle.std.proofs.Common.{◌≡◌, ℕ, true, false, Some, None, refl, sym, lit≤, lit<}
use Rattle.tx.specs.declared.input.OutPoint.{OutPoint}
use Rattle.terms.specs.declared.sides.Side.TheVariants.{B}
use Rattle.terms.specs.declared.agreement.BaseKeys.{BaseKeys}
use Rattle.terms.specs.declared.agreement.Terms.{Terms}
use Rattle.terms.specs.declared.proposals.ProposedTerms.{ProposedTerms}
use Rattle.terms.specs.Agreement.{HasFields}
use Rattle.terms.specs.Proposals.{can_agree, party_of, agreed_terms}
use Rattle.terms.proofs.Agreed.{terms_are}

abbrev proposed : ℕ → ℕ → ℕ → ProposedTerms
proposed capacity_sat a b = record {
  capacity_sat = capacity_sat;
  opener = B;
  feerate_per_kw = 6;
  a = record { dust_sat = 4; delay_blocks = 2; minimum_msat = 7; start_msat = a };
  b = record { dust_sat = 5; delay_blocks = 3; minimum_msat = 8; start_msat = b };
}

-- the capacity is what the sides begin with, and at most 21,000,000 bitcoins
agreements : (can_agree (proposed 1 999 1) ≡ true)
    × (can_agree (proposed 1 999 2) ≡ false)
    × (can_agree (proposed 1 999 0) ≡ false)
    × (can_agree (proposed 2100000000000000 2099999999999999999 1) ≡ true)
    × (can_agree (proposed 2100000000000001 2100000000000001000 0) ≡ false)
agreements = (refl, refl, refl, refl, refl)

-- each side's delay is of 16 bits
abbrev delayed : ℕ → ℕ → ProposedTerms
delayed a b = record {
  capacity_sat = 1;
  opener = B;
  feerate_per_kw = 6;
  a = record { dust_sat = 4; delay_blocks = a; minimum_msat = 7; start_msat = 999 };
  b = record { dust_sat = 5; delay_blocks = b; minimum_msat = 8; start_msat = 1 };
}

delays : (can_agree (delayed 65535 65535) ≡ true) × (can_agree (delayed 65536 65535) ≡ false) × (can_agree (delayed 65535 65536) ≡ false)
delays = (refl, refl, refl)

-- each side has its own values and keys
module _ (funding : OutPoint) (keys_of_a keys_of_b : BaseKeys) where
  abbrev terms : Terms
  terms = record {
    funding = funding;
    capacity_sat = 1;
    opener = B;
    feerate_per_kw = 6;
    a = record { dust_sat = 4; delay_blocks = 2; minimum_msat = 7; start_msat = 999; bases = keys_of_a };
    b = record { dust_sat = 5; delay_blocks = 3; minimum_msat = 8; start_msat = 1; bases = keys_of_b };
    limited = lit≤ tt;
    whole = refl;
    short_a = lit< tt;
    short_b = lit< tt;
  }

  fields : HasFields terms funding 1 B 6 (party_of (proposed 1 999 1).a keys_of_a) (party_of (proposed 1 999 1).b keys_of_b)
  fields = record { funding_is = refl; capacity_is = refl; opener_is = refl; feerate_is = refl; a_is = refl; b_is = refl }

  made : agreed_terms funding keys_of_a keys_of_b (proposed 1 999 1) ≡ Some terms
  made = sym (terms_are funding keys_of_a keys_of_b (proposed 1 999 1) terms (record { limited = lit≤ tt; whole = refl }) fields)

  refused : agreed_terms funding keys_of_a keys_of_b (proposed 1 999 2) ≡ None
  unfolding agreed_terms
  refused = refl
