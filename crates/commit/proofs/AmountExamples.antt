-- The amounts of commitments (BOLT 3, appendix C), and amounts at the dust limit.
use Rattle.std.proofs.Common.{◌≡◌, ℕ, map, List, [], ◌∷◌, Option, Some, None, refl, lit≤, lit<}
use Rattle.tx.specs.declared.input.OutPoint.{OutPoint}
use Rattle.terms.specs.declared.htlcs.Htlc.{Htlc}
use Rattle.terms.specs.declared.sides.Side.{Side}
use Rattle.terms.specs.declared.sides.Side.TheVariants.{A, B}
use Rattle.terms.specs.declared.agreement.BaseKeys.{BaseKeys}
use Rattle.terms.specs.declared.agreement.Party.{Party}
use Rattle.terms.specs.declared.agreement.Terms.{Terms}
use Rattle.terms.specs.declared.views.View.{View}
use Rattle.tx.specs.Fields.{Transaction}
use Rattle.commit.specs.Amounts.{amounts_of}
use Rattle.commit.specs.Outputs.{outputs_of}
use Rattle.commit.specs.Order.{in_order, output_cmp}
use Rattle.commit.specs.Commitments.{Contents, commitment_of, htlcs_from, htlc_tx_at, htlc_tx_of}

-- the terms of these examples: A opened the channel
module _ (funding : OutPoint) (bases : BaseKeys) where
  abbrev side : ℕ → ℕ → Party
  side dust_sat start_msat = record { dust_sat = dust_sat; delay_blocks = 144; minimum_msat = 0; start_msat = start_msat; bases = bases }

  -- of a capacity that is A's at the start, and the dust limits of A and B
  abbrev opened_by_a : ℕ → ℕ → Terms
  opened_by_a dust-a dust-b = record { funding = funding; capacity_sat = 10000000; opener = A; feerate_per_kw = 1000; a = side dust-a 10000000000; b = side dust-b 0; limited = lit≤ tt; whole = refl; short_a = lit< tt; short_b = lit< tt }

  abbrev of_amount : ℕ → Htlc
  of_amount amount_msat = record { id = 0; amount_msat = amount_msat; hash = []; expiry_height = 500 }

  abbrev view : ℕ → ℕ → List ℕ → ℕ → List ℕ → View
  view feerate_per_kw balance-a from-a balance-b from-b = record {
    a = record { balance_msat = balance-a; offered = map of_amount from-a };
    b = record { balance_msat = balance-b; offered = map of_amount from-b };
    feerate_per_kw = feerate_per_kw;
  }

  -- the amounts, with only the millisatoshis of the HTLCs
  abbrev summary : Terms → View → Side → List ℕ × List ℕ × ℕ × Option ℕ × Option ℕ
  summary terms view owner = let a = amounts_of terms view owner in (map (λ h. h.amount_msat) a.offered, map (λ h. h.amount_msat) a.received, a.fee, a.to_local, a.to_remote)

  -- the five HTLCs of appendix C, at each of its feerates
  abbrev appendix : ℕ → List ℕ × List ℕ × ℕ × Option ℕ × Option ℕ
  appendix feerate_per_kw = summary (opened_by_a 546 546) (view feerate_per_kw 6988000000 (2000000 ∷ 3000000 ∷ []) 3000000000 (1000000 ∷ 2000000 ∷ 4000000 ∷ [])) A

  appendix_amounts : map appendix (0 ∷ 647 ∷ 648 ∷ 2069 ∷ 2070 ∷ 2194 ∷ 2195 ∷ 3702 ∷ 3703 ∷ 4914 ∷ 4915 ∷ 9651180 ∷ 9651181 ∷ 9651936 ∷ [])
      ≡ (2000000 ∷ 3000000 ∷ [], 1000000 ∷ 2000000 ∷ 4000000 ∷ [], 0, Some 6988000, Some 3000000)
      ∷ (2000000 ∷ 3000000 ∷ [], 1000000 ∷ 2000000 ∷ 4000000 ∷ [], 1024, Some 6986976, Some 3000000)
      ∷ (2000000 ∷ 3000000 ∷ [], 2000000 ∷ 4000000 ∷ [], 914, Some 6987086, Some 3000000)
      ∷ (2000000 ∷ 3000000 ∷ [], 2000000 ∷ 4000000 ∷ [], 2921, Some 6985079, Some 3000000)
      ∷ (2000000 ∷ 3000000 ∷ [], 4000000 ∷ [], 2566, Some 6985434, Some 3000000)
      ∷ (2000000 ∷ 3000000 ∷ [], 4000000 ∷ [], 2720, Some 6985280, Some 3000000)
      ∷ (3000000 ∷ [], 4000000 ∷ [], 2344, Some 6985656, Some 3000000)
      ∷ (3000000 ∷ [], 4000000 ∷ [], 3953, Some 6984047, Some 3000000)
      ∷ ([], 4000000 ∷ [], 3317, Some 6984683, Some 3000000)
      ∷ ([], 4000000 ∷ [], 4402, Some 6983598, Some 3000000)
      ∷ ([], [], 3558, Some 6984442, Some 3000000)
      ∷ ([], [], 6987454, Some 546, Some 3000000)
      ∷ ([], [], 6987455, None, Some 3000000)
      ∷ ([], [], 6988001, None, Some 3000000)
      ∷ []
  appendix_amounts = refl

  -- an HTLC at the limit of trimming, which changes the fee; its receiver's commitment trims it later
  at_the_limit : map (λ owner. summary (opened_by_a 546 546) (view 5000 76139000 (3861000 ∷ []) 20000000 []) owner) (A ∷ B ∷ [])
      ≡ (3861000 ∷ [], [], 4480, Some 71659, Some 20000) ∷ ([], [], 3620, Some 20000, Some 72519) ∷ []
  at_the_limit = refl

  below_the_limit : summary (opened_by_a 546 546) (view 5000 76140000 (3860000 ∷ []) 20000000 []) A ≡ ([], [], 3620, Some 72520, Some 20000)
  below_the_limit = refl

  -- two equal HTLCs count twice
  twice : summary (opened_by_a 546 546) (view 1000 60000000 (10000000 ∷ 10000000 ∷ []) 20000000 []) A ≡ (10000000 ∷ 10000000 ∷ [], [], 1068, Some 58932, Some 20000)
  twice = refl

  -- balances at the dust limit, and one below the fee: of both sides' commitments
  abbrev small : List View
  small = view 1000 99455000 [] 545000 [] ∷ view 1000 99454000 [] 546000 [] ∷ view 1000 700000 [] 99300000 [] ∷ []

  small_balances_of_a : map (λ v. summary (opened_by_a 546 546) v A) small
      ≡ ([], [], 724, Some 98731, None) ∷ ([], [], 724, Some 98730, Some 546) ∷ ([], [], 724, None, Some 99300) ∷ []
  small_balances_of_a = refl

  small_balances_of_b : map (λ v. summary (opened_by_a 546 546) v B) small
      ≡ ([], [], 724, None, Some 98731) ∷ ([], [], 724, Some 546, Some 98730) ∷ ([], [], 724, Some 99300, None) ∷ []
  small_balances_of_b = refl

  -- each owner's own dust limit
  own_limits : map (λ owner. summary (opened_by_a 1000 500) (view 0 999000 (999000 ∷ []) 499000 (500000 ∷ [])) owner) (A ∷ B ∷ [])
      ≡ ([], [], 0, None, None) ∷ (500000 ∷ [], 999000 ∷ [], 0, None, Some 999) ∷ []
  own_limits = refl

  -- the terms say 1,000 satoshis for 1,000 units of weight, and the view another feerate, at which A offers an HTLC and receives one
  abbrev at_feerate : ℕ → List ℕ → Contents
  at_feerate feerate_per_kw point = commitment_of (opened_by_a 546 546) (view feerate_per_kw 6000000000 (10000000 ∷ []) 3000000000 (12000000 ∷ [])) A 1 point

  abbrev values : Option Transaction → List ℕ
  values None = []
  values (Some t) = map (λ o. o.value) t.outputs

  -- HTLC-timeout and HTLC-success pay the view's feerate: 3,315 and 3,515 satoshis at 5,000, and 818 and 867 at 1,234
  second_stages : (point : List ℕ) → (map (λ k. values (htlc_tx_at (at_feerate 5000 point) k)) (0 ∷ 1 ∷ 2 ∷ []) ≡ (6685 ∷ []) ∷ (8485 ∷ []) ∷ [] ∷ [])
      × (map (λ k. values (htlc_tx_at (at_feerate 1234 point) k)) (0 ∷ 1 ∷ 2 ∷ []) ≡ (9182 ∷ []) ∷ (11133 ∷ []) ∷ [] ∷ [])
  unfolding commitment_of outputs_of in_order output_cmp htlcs_from htlc_tx_at htlc_tx_of
  second_stages point = (refl, refl)
