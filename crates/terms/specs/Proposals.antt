-- Proposed terms: whether two sides can agree on them, and the terms that they then have.
use Rattle.std.specs.Prelude.{◌≡◌, ◌+◌, ◌*◌, ◌^◌, ◌==◌, ◌&&◌, nat_le, nat_lt, Bool, true, false, refl, Option, Some, None}
use Rattle.std.proofs.lemmas.Bool.{and_parts, leb-true, ltb-true, eqb-true}
use Rattle.tx.specs.declared.limits.TheConstants.{MAX_VALUE}
use Rattle.tx.specs.declared.input.OutPoint.{OutPoint}
use Rattle.terms.specs.declared.amounts.TheConstants.{MSAT_PER_SAT}
use Rattle.terms.specs.declared.agreement.BaseKeys.{BaseKeys}
use Rattle.terms.specs.declared.agreement.Party.{Party}
use Rattle.terms.specs.declared.agreement.Terms.{Terms}
use Rattle.terms.specs.declared.proposals.ProposedParty.{ProposedParty}
use Rattle.terms.specs.declared.proposals.ProposedTerms.{ProposedTerms}

-- the capacity is at most the greatest value of an output, the two starting balances sum to it, and each delay fits into 16 bits
abbrev pub can_agree : ProposedTerms → Bool
can_agree t = nat_le t.capacity_sat MAX_VALUE && t.a.start_msat + t.b.start_msat == MSAT_PER_SAT * t.capacity_sat && nat_lt t.a.delay_blocks (2 ^ 16) && nat_lt t.b.delay_blocks (2 ^ 16)

-- a side's part of the terms, with these base keys
abbrev pub party_of : ProposedParty → BaseKeys → Party
party_of p bases = record { dust_sat = p.dust_sat; delay_blocks = p.delay_blocks; minimum_msat = p.minimum_msat; start_msat = p.start_msat; bases = bases }

-- the terms with a funding output and both sides' base keys, where the sides can agree on them
abbrev pub terms_with : OutPoint → (a b : BaseKeys) → (t : ProposedTerms) → can_agree t ≡ true → Terms
terms_with funding a b t h =
    let last = and_parts (nat_le t.capacity_sat MAX_VALUE && t.a.start_msat + t.b.start_msat == MSAT_PER_SAT * t.capacity_sat && nat_lt t.a.delay_blocks (2 ^ 16)) (nat_lt t.b.delay_blocks (2 ^ 16)) h in
    let front = and_parts (nat_le t.capacity_sat MAX_VALUE && t.a.start_msat + t.b.start_msat == MSAT_PER_SAT * t.capacity_sat) (nat_lt t.a.delay_blocks (2 ^ 16)) last.0 in
    let sums = and_parts (nat_le t.capacity_sat MAX_VALUE) (t.a.start_msat + t.b.start_msat == MSAT_PER_SAT * t.capacity_sat) front.0 in
    record {
      funding = funding;
      capacity_sat = t.capacity_sat;
      opener = t.opener;
      feerate_per_kw = t.feerate_per_kw;
      a = party_of t.a a;
      b = party_of t.b b;
      limited = leb-true t.capacity_sat MAX_VALUE sums.0;
      whole = eqb-true (t.a.start_msat + t.b.start_msat) (MSAT_PER_SAT * t.capacity_sat) sums.1;
      short_a = ltb-true t.a.delay_blocks (2 ^ 16) front.1;
      short_b = ltb-true t.b.delay_blocks (2 ^ 16) last.1;
    }

abbrev pub terms_if : OutPoint → (a b : BaseKeys) → (t : ProposedTerms) (agreed : Bool) → can_agree t ≡ agreed → Option Terms
terms_if funding a b t true h = Some (terms_with funding a b t h)
terms_if funding a b t false h = None

unfoldable pub agreed_terms : OutPoint → (a b : BaseKeys) → ProposedTerms → Option Terms
agreed_terms funding a b t = terms_if funding a b t (can_agree t) refl
