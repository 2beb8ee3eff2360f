-- What is left of a commitment's outputs to be claimed once each HTLC transaction stands, by its amounts, which are there before any script is made and before the outputs are sorted.
use Rattle.std.specs.Prelude.{◌≡◌, ℕ, ◌+◌, ◌-◌, Bool, true, List, unwrap_or, sum_by}
use Rattle.std.specs.List.{filter}
use Rattle.terms.specs.declared.htlcs.Htlc.{Htlc}
use Rattle.terms.specs.declared.sides.Side.{Side}
use Rattle.terms.specs.declared.agreement.Terms.{Terms}
use Rattle.terms.specs.declared.views.View.{View}
use Rattle.commit.specs.declared.fees.Direction.{Direction}
use Rattle.commit.specs.declared.fees.Direction.TheVariants.{Offered, Received}
use Rattle.commit.specs.declared.amounts.Amounts.{Amounts}
use Rattle.commit.specs.Fees.{satoshis_of, fee_sat_of, htlc_weight}
use Rattle.commit.specs.Amounts.{amounts_of}
use Rattle.commit.specs.Commitments.{commitment_of}
use Rattle.penalty.specs.Worth.{staged, value_of}
use Rattle.worth_laws.specs.Counted.{counted}

-- the satoshis of HTLCs, each less the fee of its HTLC transaction
abbrev pub left_sat_of : Direction → (feerate_per_kw : ℕ) → List Htlc → ℕ
left_sat_of direction feerate_per_kw hs = sum_by (λ h. satoshis_of h.amount_msat - fee_sat_of (htlc_weight direction) feerate_per_kw) hs

-- with the output to the owner, of those on which it counts; and with the outputs to both sides, of all
abbrev pub owners_left_sat : (Htlc → Bool) → (feerate_per_kw : ℕ) → Amounts → ℕ
owners_left_sat known feerate_per_kw a = unwrap_or a.to_local 0 + left_sat_of Offered feerate_per_kw a.offered + left_sat_of Received feerate_per_kw (filter known a.received)

abbrev pub all_left_sat : (feerate_per_kw : ℕ) → Amounts → ℕ
all_left_sat feerate_per_kw a = unwrap_or a.to_local 0 + unwrap_or a.to_remote 0 + left_sat_of Offered feerate_per_kw a.offered + left_sat_of Received feerate_per_kw a.received

-- the claims are worth that, of a side's own commitment and of one that it revoked, whatever scripts and order the outputs have
pub record LeftIsPlaced : Type 0 where
  pub own : (terms : Terms) (view : View) (owner : Side) (n : ℕ) (point : List ℕ) (known : Htlc → Bool)
      → value_of (counted true known (λ _. true) (commitment_of terms view owner n point)) ≡ owners_left_sat known view.feerate_per_kw (amounts_of terms view owner)
  pub all : (terms : Terms) (view : View) (owner : Side) (n : ℕ) (point : List ℕ) → value_of (staged (λ _. true) (commitment_of terms view owner n point)) ≡ all_left_sat view.feerate_per_kw (amounts_of terms view owner)
