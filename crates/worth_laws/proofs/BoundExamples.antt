-- What is taken off at the bounds and beyond them, and what is left where there is no bound.
use Rattle.std.proofs.Common.{◌≡◌, ℕ, ◌+◌, Bool, true, false, map, List, [], ◌∷◌, refl, arith, lit≤}
use Rattle.tx.specs.declared.input.OutPoint.{OutPoint}
use Rattle.terms.specs.declared.htlcs.Htlc.{Htlc}
use Rattle.terms.specs.declared.sides.Side.TheVariants.{A, B}
use Rattle.terms.specs.declared.agreement.BaseKeys.{BaseKeys}
use Rattle.terms.specs.declared.agreement.Terms.{Terms}
use Rattle.terms.specs.declared.views.View.{View}
use Rattle.commit.specs.Outputs.{outputs_of}
use Rattle.commit.specs.Order.{in_order, output_cmp}
use Rattle.commit.specs.Commitments.{commitment_of}
use Rattle.worth_laws.proofs.Samples.{opened_by, view, all_known}
use Rattle.worth_laws.specs.Shares.{Deductions, counted_msat, counted_sat, deductions, IsLess, none_known}
use Rattle.worth_laws.specs.Bounds.{htlc_count, counted_count, greatest, AreAtMost, IsWithin}

abbrev of : ℕ → ℕ → ℕ → ℕ → Deductions
of fee_sat dust_sat trimmed_sat rest_msat = record { fee_sat = fee_sat; dust_sat = dust_sat; trimmed_sat = trimmed_sat; rest_msat = rest_msat }

module _ (funding : OutPoint) (bases : BaseKeys) (point : List ℕ) where
  -- by the dust limits of A and B
  abbrev opened : ℕ → ℕ → Terms
  opened dust-a dust-b = opened_by funding bases A dust-a dust-b

  -- ---- at the bounds

  -- B's own commitment, with the largest dust, and an HTLC of the largest amount that has no output: 546 and 703 satoshis, less 1 millisatoshi. A opened the channel
  abbrev at_most : View
  at_most = view 1000 98205002 (1248999 ∷ []) 545999 []

  dearest : deductions (opened 546 546) at_most true B all_known ≡ of 0 545 1248 1998
  dearest = refl

  -- the greatest are just those
  dearest_is_the_bound : greatest A B 1000 546 (htlc_count at_most) (counted_count all_known B at_most) ≡ of 0 545 1248 1998
  dearest_is_the_bound = refl

  -- a millisatoshi more of either has an output
  abbrev above : View
  above = view 1000 98205000 (1249000 ∷ []) 546000 []

  above_has_outputs : (deductions (opened 546 546) above true B all_known ≡ of 0 0 0 0) × (counted_sat true all_known (commitment_of (opened 546 546) above B 1 point).outputs ≡ 1795)
  unfolding commitment_of outputs_of in_order output_cmp
  above_has_outputs = (refl, refl)

  -- as B's own offer on its own commitment the fee is that of HTLC-timeout, so that less is trimmed than the bound says
  abbrev timeout : View
  timeout = view 1000 98205002 [] 545999 (1248999 ∷ [])

  timeout_is_cheaper : deductions (opened 546 546) timeout true B none_known ≡ of 0 545 0 1998
  timeout_is_cheaper = refl

  -- the opener A, whose fee is for one HTLC with an output
  abbrev dear : View
  dear = view 1000 59441999 (10000000 ∷ []) 30558001 []

  fee_is_the_bound : (deductions (opened 546 546) dear true A none_known ≡ of 896 0 0 999) × (greatest A A 1000 546 (htlc_count dear) (counted_count none_known A dear) ≡ of 896 545 1248 1998)
  fee_is_the_bound = (refl, refl)

  -- yes: AreAtMost
  within_each : AreAtMost (of 0 545 1248 1998) (greatest A B 1000 546 1 1)
  within_each = record { fee = lit≤ tt; dust = lit≤ tt; trimmed = lit≤ tt; rest = lit≤ tt }

  -- no: AreAtMost
  beyond_each : (AreAtMost (of 1 545 1248 1998) (greatest A B 1000 546 1 1) → ⊥)
      × (AreAtMost (of 0 546 1248 1998) (greatest A B 1000 546 1 1) → ⊥)
      × (AreAtMost (of 0 545 1249 1998) (greatest A B 1000 546 1 1) → ⊥)
      × (AreAtMost (of 0 545 1248 1999) (greatest A B 1000 546 1 1) → ⊥)
      × (AreAtMost (of 897 0 0 0) (greatest A A 1000 546 1 1) → ⊥)
  beyond_each =
      (λ a. let l = a.fee in omega (arith, l), λ a. let l = a.dust in omega (arith, l), λ a. let l = a.trimmed in omega (arith, l), λ a. let l = a.rest in omega (arith, l), λ a. let l = a.fee in omega (arith, l))

  -- by the dust limit of the owner alone
  -- yes: IsWithin
  at_its_limits : IsWithin (opened 546 1000) at_most A 1000 546
  at_its_limits = record { feerate = lit≤ tt; limit = lit≤ tt }

  -- no: IsWithin
  above_its_limits : (IsWithin (opened 546 1000) at_most A 999 546 → ⊥) × (IsWithin (opened 546 1000) at_most A 1000 545 → ⊥) × (IsWithin (opened 546 1000) at_most B 1000 999 → ⊥)
  above_its_limits = (λ w. let l = w.feerate in omega (arith, l), λ w. let l = w.limit in omega (arith, l), λ w. let l = w.limit in omega (arith, l))

  -- ---- the identity, off by one

  -- yes: IsLess
  as_it_is : IsLess 1794998 (of 0 545 1248 1998) 0 × IsLess 69441999 (of 896 0 0 999) 68545
  as_it_is = (refl, refl)

  -- a satoshi more or less of outputs, of the fee, of dust, of HTLCs; a millisatoshi of what is rounded off; a fee that counts twice; A's dust limit in place of B's
  -- no: IsLess
  as_it_is_not : (IsLess 69441999 (of 896 0 0 999) 68544 → ⊥)
      × (IsLess 69441999 (of 896 0 0 999) 68546 → ⊥)
      × (IsLess 69441999 (of 895 0 0 999) 68545 → ⊥)
      × (IsLess 1794998 (of 0 544 1248 1998) 0 → ⊥)
      × (IsLess 1794998 (of 0 545 1249 1998) 0 → ⊥)
      × (IsLess 1794998 (of 0 545 1248 1997) 0 → ⊥)
      × (IsLess 69441999 (of (896 + 896) 0 0 999) 68545 → ⊥)
      × (IsLess 1794998 (deductions (opened 546 500) at_most true B all_known) 0 → ⊥)
  as_it_is_not =
      (λ e. omega (arith, e), λ e. omega (arith, e), λ e. omega (arith, e), λ e. omega (arith, e), λ e. omega (arith, e), λ e. omega (arith, e), λ e. omega (arith, e), λ e. omega (arith, e))

  -- ---- without a bound

  -- A offered B an HTLC of 10,000 satoshis and has 70,000. B knows the preimage
  abbrev owing : ℕ → View
  owing feerate_per_kw = view feerate_per_kw 70000000 (10000000 ∷ []) 20000000 []

  abbrev of_b : ℕ → (Htlc → Bool) → ℕ × ℕ × Deductions
  of_b feerate_per_kw known = (
    counted_msat known B (owing feerate_per_kw),
    counted_sat true known (commitment_of (opened 546 546) (owing feerate_per_kw) B 1 point).outputs,
    deductions (opened 546 546) (owing feerate_per_kw) true B known,
  )

  -- B's own commitment at 1,000 satoshis for 1,000 units of weight, and at the greatest feerate that 32 bits can hold: all of the HTLC is gone, whether or not B knows the preimage, and no deduction but 'trimmed' says so
  any_feerate : map (λ feerate_per_kw. of_b feerate_per_kw all_known) (1000 ∷ 4294967295 ∷ []) ≡ (30000000, 30000, of 0 0 0 0) ∷ (30000000, 20000, of 0 0 10000 0) ∷ []
  unfolding commitment_of outputs_of in_order output_cmp
  any_feerate = refl

  any_feerate_without : of_b 4294967295 none_known ≡ (20000000, 20000, of 0 0 0 0)
  unfolding commitment_of outputs_of in_order output_cmp
  any_feerate_without = refl

  -- with a dust limit of A's at its capacity A's commitment pays B nothing of 30,000 satoshis
  any_dust_limit : (counted_msat all_known B (owing 1000) ≡ 30000000)
      × (counted_sat false all_known (commitment_of (opened 100000 546) (owing 1000) A 1 point).outputs ≡ 0)
      × (deductions (opened 100000 546) (owing 1000) false B all_known ≡ of 0 20000 10000 0)
  unfolding commitment_of outputs_of in_order output_cmp
  any_dust_limit = (refl, refl, refl)

  -- at a feerate of at most 10,000 and a dust limit of at most 546 satoshis B would have lost at most 545 + 7,575 satoshis and 1,998 millisatoshis
  bounded : greatest A B 10000 546 1 1 ≡ of 0 545 7575 1998
  bounded = refl
