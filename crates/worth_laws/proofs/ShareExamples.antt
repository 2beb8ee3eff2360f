-- What the outputs of worked commitments are worth to each side, and what is taken off. The amounts of the first are those of BOLT 3, appendix C; the others were computed from BOLT 3 by a program of its own.
use Rattle.std.proofs.Common.{◌≡◌, ℕ, Bool, true, false, map, List, [], ◌∷◌, ◌++◌, refl, lit≤, lit<}
use Rattle.tx.specs.declared.input.OutPoint.{OutPoint}
use Rattle.terms.specs.declared.htlcs.Htlc.{Htlc}
use Rattle.terms.specs.declared.sides.Side.{Side}
use Rattle.terms.specs.declared.sides.Side.TheVariants.{A, B}
use Rattle.terms.specs.declared.agreement.BaseKeys.{BaseKeys}
use Rattle.terms.specs.declared.agreement.Terms.{Terms}
use Rattle.terms.specs.declared.views.View.{View}
use Rattle.commit.specs.Amounts.{amounts_of}
use Rattle.commit.specs.Keys.{keys_of}
use Rattle.commit.specs.Outputs.{outputs_of}
use Rattle.commit.specs.Order.{in_order, output_cmp}
use Rattle.commit.specs.Commitments.{commitment_of}
use Rattle.worth_laws.proofs.Samples.{side, opened_by, view, mixed, all_known, large_known}
use Rattle.worth_laws.specs.Shares.{Deductions, owner_by, counted_msat, counted_sat, values_sat, deductions, none_known, all_deductions}

module _ (funding : OutPoint) (bases : BaseKeys) (point : List ℕ) where
  -- what a side counts on in millisatoshis, what the outputs are worth in satoshis, and the deductions: fee, dust, HTLCs without an output, and the millisatoshis that are rounded off
  abbrev figures : ℕ → ℕ → Deductions → ℕ × ℕ × ℕ × ℕ × ℕ × ℕ
  figures whole_msat satoshis d = (whole_msat, satoshis, d.fee_sat, d.dust_sat, d.trimmed_sat, d.rest_msat)

  -- ---- appendix C: A opened the channel, and the commitments are A's

  abbrev appendix_terms : Terms
  appendix_terms = record { funding = funding; capacity_sat = 10000000; opener = A; feerate_per_kw = 1000; a = side bases 546 10000000000; b = side bases 546 0; limited = lit≤ tt; whole = refl; short_a = lit< tt; short_b = lit< tt }

  abbrev appendix_view : ℕ → View
  appendix_view feerate_per_kw = view feerate_per_kw 6988000000 (2000000 ∷ 3000000 ∷ []) 3000000000 (1000000 ∷ 2000000 ∷ 4000000 ∷ [])

  -- the outputs that are worth something, in no order: two of them are worth the same, and their order goes by the bytes of scripts
  abbrev appendix : (own : Bool) → Side → (Htlc → Bool) → ℕ → ℕ × ℕ × ℕ × ℕ × ℕ × ℕ
  appendix own me known feerate_per_kw =
      figures (counted_msat known me (appendix_view feerate_per_kw)) (counted_sat own known (outputs_of 144 (keys_of appendix_terms A point) (amounts_of appendix_terms (appendix_view feerate_per_kw) A)))
      (deductions appendix_terms (appendix_view feerate_per_kw) own me known)

  -- A has 6,988,000 satoshis, offered 5,000, and knows the preimages of all 7,000 that B offered
  as_owner : map (appendix true A all_known) (0 ∷ 647 ∷ 648 ∷ 2069 ∷ 2070 ∷ 2194 ∷ 2195 ∷ 3702 ∷ 3703 ∷ 4914 ∷ 4915 ∷ 9651180 ∷ 9651181 ∷ 9651936 ∷ [])
      ≡ (7000000000, 7000000, 0, 0, 0, 0)
      ∷ (7000000000, 6998976, 1024, 0, 0, 0)
      ∷ (7000000000, 6998086, 914, 0, 1000, 0)
      ∷ (7000000000, 6996079, 2921, 0, 1000, 0)
      ∷ (7000000000, 6994434, 2566, 0, 3000, 0)
      ∷ (7000000000, 6994280, 2720, 0, 3000, 0)
      ∷ (7000000000, 6992656, 2344, 0, 5000, 0)
      ∷ (7000000000, 6991047, 3953, 0, 5000, 0)
      ∷ (7000000000, 6988683, 3317, 0, 8000, 0)
      ∷ (7000000000, 6987598, 4402, 0, 8000, 0)
      ∷ (7000000000, 6984442, 3558, 0, 12000, 0)
      ∷ (7000000000, 546, 6987454, 0, 12000, 0)
      ∷ (7000000000, 0, 6987455, 545, 12000, 0)
      ∷ (7000000000, 0, 6988000, 0, 12000, 0)
      ∷ []
  unfolding outputs_of
  as_owner = refl

  -- A knows none of them
  as_owner_without : map (appendix true A none_known) (647 ∷ 2195 ∷ 4915 ∷ [])
      ≡ (6993000000, 6991976, 1024, 0, 0, 0)
      ∷ (6993000000, 6988656, 2344, 0, 2000, 0)
      ∷ (6993000000, 6984442, 3558, 0, 5000, 0)
      ∷ []
  unfolding outputs_of
  as_owner_without = refl

  -- B has 3,000,000, offered 7,000, and knows the preimages of A's 5,000: the fee is A's, and HTLCs without an output are lost to B too
  as_peer : map (appendix false B all_known) (0 ∷ 647 ∷ 648 ∷ 2069 ∷ 2070 ∷ 2194 ∷ 2195 ∷ 3702 ∷ 3703 ∷ 4914 ∷ 4915 ∷ 9651180 ∷ 9651181 ∷ 9651936 ∷ [])
      ≡ (3012000000, 3012000, 0, 0, 0, 0)
      ∷ (3012000000, 3012000, 0, 0, 0, 0)
      ∷ (3012000000, 3011000, 0, 0, 1000, 0)
      ∷ (3012000000, 3011000, 0, 0, 1000, 0)
      ∷ (3012000000, 3009000, 0, 0, 3000, 0)
      ∷ (3012000000, 3009000, 0, 0, 3000, 0)
      ∷ (3012000000, 3007000, 0, 0, 5000, 0)
      ∷ (3012000000, 3007000, 0, 0, 5000, 0)
      ∷ (3012000000, 3004000, 0, 0, 8000, 0)
      ∷ (3012000000, 3004000, 0, 0, 8000, 0)
      ∷ (3012000000, 3000000, 0, 0, 12000, 0)
      ∷ (3012000000, 3000000, 0, 0, 12000, 0)
      ∷ (3012000000, 3000000, 0, 0, 12000, 0)
      ∷ (3012000000, 3000000, 0, 0, 12000, 0)
      ∷ []
  unfolding outputs_of
  as_peer = refl

  as_peer_without : map (appendix false B none_known) (647 ∷ 2195 ∷ 4915 ∷ [])
      ≡ (3007000000, 3007000, 0, 0, 0, 0)
      ∷ (3007000000, 3004000, 0, 0, 3000, 0)
      ∷ (3007000000, 3000000, 0, 0, 7000, 0)
      ∷ []
  unfolding outputs_of
  as_peer_without = refl

  -- ---- either opener, with dust limits of 546 satoshis for A and 1,000 for B, at 1,000 satoshis for 1,000 units of weight: A's second HTLC has an output on A's commitment alone

  abbrev opened : Side → Terms
  opened opener = opened_by funding bases opener 546 1000

  -- on one's own commitment and on the peer's, each with none, with the larger and with both of the HTLCs that were offered to the side
  abbrev mixed_of : Side → Side → (own : Bool) → (Htlc → Bool) → ℕ × ℕ × ℕ × ℕ × ℕ × ℕ
  mixed_of opener me own known =
      figures (counted_msat known me mixed) (counted_sat own known (commitment_of (opened opener) mixed (owner_by own me) 1 point).outputs) (deductions (opened opener) mixed own me known)

  abbrev each : Side → Side → List (ℕ × ℕ × ℕ × ℕ × ℕ × ℕ)
  each opener me = map (mixed_of opener me true) (none_known ∷ large_known ∷ all_known ∷ []) ++ map (mixed_of opener me false) (none_known ∷ large_known ∷ all_known ∷ [])

  a_of_as : each A A
      ≡ (51300750, 50060, 1240, 0, 0, 750)
      ∷ (63299750, 62059, 1240, 0, 0, 750)
      ∷ (63600749, 62059, 1240, 0, 300, 1749)
      ∷ (51300750, 48932, 1068, 0, 1300, 750)
      ∷ (63299750, 60931, 1068, 0, 1300, 750)
      ∷ (63600749, 60931, 1068, 0, 1600, 1749)
      ∷ []
  unfolding commitment_of outputs_of in_order output_cmp
  a_of_as = refl

  b_of_as : each A B
      ≡ (48699250, 48398, 0, 0, 300, 1250)
      ∷ (58699750, 58398, 0, 0, 300, 1750)
      ∷ (59999750, 58398, 0, 0, 1600, 1750)
      ∷ (48699250, 48398, 0, 0, 300, 1250)
      ∷ (58699750, 58398, 0, 0, 300, 1750)
      ∷ (59999750, 59698, 0, 0, 300, 1750)
      ∷ []
  unfolding commitment_of outputs_of in_order output_cmp
  b_of_as = refl

  a_of_bs : each B A
      ≡ (51300750, 51300, 0, 0, 0, 750)
      ∷ (63299750, 63299, 0, 0, 0, 750)
      ∷ (63600749, 63299, 0, 0, 300, 1749)
      ∷ (51300750, 50000, 0, 0, 1300, 750)
      ∷ (63299750, 61999, 0, 0, 1300, 750)
      ∷ (63600749, 61999, 0, 0, 1600, 1749)
      ∷ []
  unfolding commitment_of outputs_of in_order output_cmp
  a_of_bs = refl

  b_of_bs : each B B
      ≡ (48699250, 47330, 1068, 0, 300, 1250)
      ∷ (58699750, 57330, 1068, 0, 300, 1750)
      ∷ (59999750, 57330, 1068, 0, 1600, 1750)
      ∷ (48699250, 47158, 1240, 0, 300, 1250)
      ∷ (58699750, 57158, 1240, 0, 300, 1750)
      ∷ (59999750, 58458, 1240, 0, 300, 1750)
      ∷ []
  unfolding commitment_of outputs_of in_order output_cmp
  b_of_bs = refl

  -- ---- all outputs

  -- of A's commitments and of B's: what they are worth, and the deductions of both sides
  abbrev all_of : Side → Side → ℕ × ℕ × ℕ × ℕ × ℕ × ℕ
  all_of opener owner = figures 100000000 (values_sat (commitment_of (opened opener) mixed owner 1 point).outputs) (all_deductions (opened opener) mixed owner)

  all_outputs : map (all_of A) (A ∷ B ∷ []) ++ map (all_of B) (A ∷ B ∷ [])
      ≡ (100000000, 98458, 1240, 0, 300, 2000)
      ∷ (100000000, 97330, 1068, 0, 1600, 2000)
      ∷ (100000000, 98458, 1240, 0, 300, 2000)
      ∷ (100000000, 97330, 1068, 0, 1600, 2000)
      ∷ []
  unfolding commitment_of outputs_of in_order output_cmp
  all_outputs = refl
