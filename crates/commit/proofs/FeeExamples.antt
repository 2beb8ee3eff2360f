-- Fees and trimming at their limits (BOLT 3, "Fees", "Trimmed Outputs" and appendix C).
use Rattle.std.proofs.Common.{◌≡◌, ℕ, map, [], ◌∷◌, true, false, refl}
use Rattle.terms.specs.declared.htlcs.Htlc.{Htlc}
use Rattle.commit.specs.declared.fees.Direction.TheVariants.{Offered, Received}
use Rattle.commit.specs.Fees.{satoshis_of, fee_sat_of, commitment_weight, htlc_weight, is_trimmed_by}

abbrev of_amount : ℕ → Htlc
of_amount amount_msat = record { id = 0; amount_msat = amount_msat; hash = []; expiry_height = 500 }

rounds : (map satoshis_of (0 ∷ 999 ∷ 1000 ∷ 1999 ∷ 18446744073709551615 ∷ []) ≡ 0 ∷ 0 ∷ 1 ∷ 1 ∷ 18446744073709551 ∷ [])
    × (map (fee_sat_of 1) (999 ∷ 1000 ∷ 1999 ∷ []) ≡ 0 ∷ 1 ∷ 1 ∷ [])
rounds = (refl, refl)

-- the base fees of appendix C
base_fees : (fee_sat_of (commitment_weight 0) 15000 ≡ 10860)
    × (fee_sat_of (commitment_weight 5) 647 ≡ 1024)
    × (fee_sat_of (commitment_weight 4) 648 ≡ 914)
    × (fee_sat_of (commitment_weight 4) 2069 ≡ 2921)
    × (fee_sat_of (commitment_weight 3) 2194 ≡ 2720)
    × (fee_sat_of (commitment_weight 2) 3702 ≡ 3953)
    × (fee_sat_of (commitment_weight 1) 4914 ≡ 4402)
    × (fee_sat_of (commitment_weight 0) 9651936 ≡ 6988001)
    × (fee_sat_of (commitment_weight 966) 4294967295 ≡ 716726962320)
base_fees = (refl, refl, refl, refl, refl, refl, refl, refl, refl)

-- at a feerate of 5000 and a dust limit of 546: 3315 and 3515 for the second stage
second_stage : (fee_sat_of (htlc_weight Offered) 5000 ≡ 3315) × (fee_sat_of (htlc_weight Received) 5000 ≡ 3515)
second_stage = (refl, refl)

offered : map (λ amount_msat. is_trimmed_by 546 5000 Offered (of_amount amount_msat)) (3860999 ∷ 3861000 ∷ 4060999 ∷ []) ≡ true ∷ false ∷ false ∷ []
offered = refl

received : map (λ amount_msat. is_trimmed_by 546 5000 Received (of_amount amount_msat)) (3861000 ∷ 4060999 ∷ 4061000 ∷ []) ≡ true ∷ true ∷ false ∷ []
received = refl

-- sums that exceed 64 bits
wide : (is_trimmed_by 18446744073709551615 5000 Offered (of_amount 18446744073709551615) ≡ true) × (is_trimmed_by 0 0 Received (of_amount 0) ≡ false)
wide = (refl, refl)
