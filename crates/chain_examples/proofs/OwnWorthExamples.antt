-- What the node's own commitment gives it on the chain of `OwnStageExamples`: to the satoshi what it counts on, less deductions. Each deduction that is off by one satoshi is refuted, and so are a fee that is counted twice, one of an
-- HTLC transaction that does not stand, and the other side's dust limit. And the deadline of an HTLC that was offered to the node is the block above its expiry, and none before it.
use Rattle.std.proofs.Common.{◌≡◌, ℕ, ◌+◌, true, List, [], ◌∷◌, refl, sym, ap, arith, lit<}
use Rattle.chain.specs.Blocks.{Coin}
use Rattle.terms.specs.declared.sides.Side.TheVariants.{A}
use Rattle.terms.specs.declared.agreement.Terms.{Terms}
use Rattle.commit.specs.Commitments.{htlcs_from}
use Rattle.penalty.specs.Claimable.{Claimable, claims_by}
use Rattle.penalty.specs.Worth.{value_of}
use Rattle.worth_laws.specs.Shares.{Deductions, counted_msat, deductions, none_known, IsLess}
use Rattle.worth_laws.specs.Counted.{counted, fees_counted}
use Rattle.safety.specs.Standing.{StandsAt}
use Rattle.safety.specs.Whereabouts.{IsNamedBy}
use Rattle.safety.specs.Resolutions.{IsOnHtlc, IsPaidOrLate, late}
use Rattle.safety.proofs.WorkedChannels.{block}
use Rattle.balance_laws.specs.Claims.{AreWorth}
use Rattle.balance_laws.specs.Times.{IsTakenBelow}
use Rattle.chain_examples.proofs.SeededChannels.{seeded_terms, seeded_view, received_htlc, seeded, knows_all}
use Rattle.chain_examples.proofs.SeededRecorded.{seeded_own_contents, seeded_own_named}
use Rattle.chain_examples.proofs.OwnSpends.{taken_below}
use Rattle.chain_examples.proofs.OneSeedExamples.{chain, received, takes_received, takes_received_input}
use Rattle.chain_examples.proofs.OwnReleases.{releases}
use Rattle.chain_examples.proofs.OwnStageOutcomes.{stands}

-- ---- what it counts on

abbrev claims : List Claimable
claims = counted true knows_all stands seeded_own_contents

abbrev fees_sat : ℕ
fees_sat = fees_counted true knows_all stands seeded_own_contents

abbrev whole_msat : ℕ
whole_msat = counted_msat knows_all A seeded_view

-- to_local, the outputs of two HTLC transactions, and the HTLC of which none stands
pub value : value_of claims ≡ 58760 + 1337 + 11297 + 3000
unfolding claims_by
value = refl

-- of HTLC-timeout and HTLC-success
pub fees : fees_sat ≡ 663 + 703
unfolding htlcs_from
fees = refl

-- its balance, the HTLCs that it offered, and the one that was offered to it
whole : whole_msat ≡ 60000500 + (2000000 + 3000000 + 600000) + 12000000
whole = refl

-- the fee of a commitment with three HTLCs, no dust, the HTLC that is trimmed, and half a satoshi
abbrev off : Deductions
off = record { fee_sat = 1240; dust_sat = 0; trimmed_sat = 600; rest_msat = 500 }

off_is : deductions seeded_terms seeded_view true A knows_all ≡ off
off_is = refl

-- with these fees the claims are worth that, to the satoshi
pub is_worth : IsLess whole_msat (deductions seeded_terms seeded_view true A knows_all) (value_of claims + fees_sat)
is_worth = let v = value in let f = fees in omega (arith, v, f)

-- so it is where the node has no preimage, and counts on less
value_unknown : value_of (counted true none_known stands seeded_own_contents) ≡ 58760 + 1337 + 3000
unfolding claims_by
value_unknown = refl

fees_unknown : fees_counted true none_known stands seeded_own_contents ≡ 663
unfolding htlcs_from
fees_unknown = refl

is_worth_unknown :
    IsLess (counted_msat none_known A seeded_view) (deductions seeded_terms seeded_view true A none_known)
    (value_of (counted true none_known stands seeded_own_contents) + fees_counted true none_known stands seeded_own_contents)
is_worth_unknown = let v = value_unknown in let f = fees_unknown in omega (arith, v, f)

-- ---- whatever became of the claims, they are not worth that where anything is off

module _ (Held : Claimable → Type 0) where
  abbrev IsWorthWith : Deductions → ℕ → Type 0
  IsWorthWith d fees = AreWorth (seeded releases) knows_all claims fees whole_msat d Held

  fee_is_more : IsWorthWith (record off { fee_sat = 1241 }) fees_sat → ⊥
  fee_is_more w = let v = value in let f = fees in let e = w.worth in omega (arith, v, f, e)

  fee_is_less : IsWorthWith (record off { fee_sat = 1239 }) fees_sat → ⊥
  fee_is_less w = let v = value in let f = fees in let e = w.worth in omega (arith, v, f, e)

  fee_is_twice : IsWorthWith (record off { fee_sat = 2480 }) fees_sat → ⊥
  fee_is_twice w = let v = value in let f = fees in let e = w.worth in omega (arith, v, f, e)

  dust_is_more : IsWorthWith (record off { dust_sat = 1 }) fees_sat → ⊥
  dust_is_more w = let v = value in let f = fees in let e = w.worth in omega (arith, v, f, e)

  trimmed_is_more : IsWorthWith (record off { trimmed_sat = 601 }) fees_sat → ⊥
  trimmed_is_more w = let v = value in let f = fees in let e = w.worth in omega (arith, v, f, e)

  trimmed_is_less : IsWorthWith (record off { trimmed_sat = 599 }) fees_sat → ⊥
  trimmed_is_less w = let v = value in let f = fees in let e = w.worth in omega (arith, v, f, e)

  rest_is_more : IsWorthWith (record off { rest_msat = 1500 }) fees_sat → ⊥
  rest_is_more w = let v = value in let f = fees in let e = w.worth in omega (arith, v, f, e)

  rest_is_less : IsWorthWith (record off { rest_msat = 0 }) fees_sat → ⊥
  rest_is_less w = let v = value in let f = fees in let e = w.worth in omega (arith, v, f, e)

  -- the fees of the HTLC transactions
  fees_are_twice : IsWorthWith off (fees_sat + fees_sat) → ⊥
  fees_are_twice w = let v = value in let f = fees in let e = w.worth in omega (arith, v, f, e)

  no_fees : IsWorthWith off 0 → ⊥
  no_fees w = let v = value in let f = fees in let e = w.worth in omega (arith, v, f, e)

  -- the third one does not stand
  fee_of_none : IsWorthWith off (fees_sat + 663) → ⊥
  fee_of_none w = let v = value in let f = fees in let e = w.worth in omega (arith, v, f, e)

  -- by the dust limit of the other side, 2,000 satoshis are trimmed, and the fee is less
  abbrev other_limit : Terms
  other_limit = record seeded_terms { a = record seeded_terms.a { dust_sat = seeded_terms.b.dust_sat } }

  by_other_limit : IsWorthWith (deductions other_limit seeded_view true A knows_all) fees_sat → ⊥
  by_other_limit w = let v = value in let f = fees in let e = w.worth in omega (arith, v, f, e)

  -- an HTLC whose preimage the node has not is counted
  preimage_is_unknown : AreWorth (seeded releases) none_known claims fees_sat (counted_msat none_known A seeded_view) (deductions seeded_terms seeded_view true A none_known) Held → ⊥
  preimage_is_unknown w = let v = value in let f = fees in let e = w.worth in omega (arith, v, f, e)

by_other_limit_is : deductions (record seeded_terms { a = record seeded_terms.a { dust_sat = seeded_terms.b.dust_sat } }) seeded_view true A knows_all ≡ record { fee_sat = 1068; dust_sat = 0; trimmed_sat = 2600; rest_msat = 500 }
by_other_limit_is = refl

-- ---- the deadline of the HTLC that was offered to the node, and that was stolen at its expiry, 3, on the chain of `OneSeedExamples`

received_stands : StandsAt chain 3 takes_received
received_stands = record { block = block (takes_received ∷ []); there = refl; within = (0, lit< tt, refl) }

received_named : IsNamedBy chain received 3 takes_received takes_received_input
received_named = record { stands = received_stands; within = (0, lit< tt, refl); names = refl }

-- it was taken below the block above the expiry
before_its_deadline : IsTakenBelow chain received (received_htlc.htlc.expiry_height + 1)
before_its_deadline = taken_below chain received (received_htlc.htlc.expiry_height + 1) refl

-- and not below the expiry
deadline_is_no_less : IsTakenBelow chain received received_htlc.htlc.expiry_height → ⊥
deadline_is_no_less k = let l = k 3 takes_received takes_received_input received_named in omega (arith, l)

-- a block later it would have been late, and no theft
on_received : IsOnHtlc seeded_own_contents received_htlc received
unfolding htlcs_from
on_received = record { among = (2, lit< tt, refl); at = ap (λ (id : List ℕ). record { txid = id; index = 2 }) (sym seeded_own_named) }

late_above : (coin : Coin) → IsPaidOrLate true seeded_own_contents received coin 4 takes_received_input
late_above coin = late received_htlc on_received refl (lit< tt)
