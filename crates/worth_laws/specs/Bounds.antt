-- How much can be taken off, where the feerate and the dust limits have a bound.
use Rattle.std.specs.Prelude.{◌≡◌, ℕ, ◌+◌, ◌-◌, ◌*◌, ◌≤◌, Bool, List, length}
use Rattle.terms.specs.declared.amounts.TheConstants.{MSAT_PER_SAT}
use Rattle.terms.specs.declared.htlcs.Htlc.{Htlc}
use Rattle.terms.specs.declared.sides.Side.{Side}
use Rattle.terms.specs.declared.agreement.Terms.{Terms}
use Rattle.terms.specs.declared.views.View.{View}
use Rattle.terms.specs.Agreement.{party}
use Rattle.terms.specs.Sides.{other}
use Rattle.commit.specs.declared.fees.Direction.TheVariants.{Received}
use Rattle.commit.specs.Fees.{fee_sat_of, commitment_weight, htlc_weight}
use Rattle.commit.specs.Amounts.{owed_sat_by}
use Rattle.commit.specs.Sums.{total_msat_of}
use Rattle.commit.specs.Commitments.{commitment_of}
use Rattle.worth_laws.specs.Shares.{Deductions, deducted_msat, owner_by, offered_by, known_to, counted_msat, counted_sat, values_sat, deductions, together, none_known, all_deductions}

-- the HTLCs of a view, and those on which a side counts
abbrev pub htlc_count : View → ℕ
htlc_count view = length view.a.offered + length view.b.offered

abbrev pub counted_count : (Htlc → Bool) → Side → View → ℕ
counted_count known me view = length (offered_by me view) + length (known_to known me view)

-- The greatest deductions of a side at a feerate and a dust limit: the fee with each HTLC of the view, if the side opened the channel; the greatest balance below the dust limit; for each HTLC on which it counts the
-- greatest amount that is trimmed, by the weight of HTLC-success; and a satoshi less 1 millisatoshi for the balance and for each of these HTLCs
abbrev pub greatest : (opener me : Side) → (feerate_per_kw limit_sat htlcs counted : ℕ) → Deductions
greatest opener me feerate_per_kw limit_sat htlcs counted = record {
  fee_sat = owed_sat_by me opener (fee_sat_of (commitment_weight htlcs) feerate_per_kw);
  dust_sat = limit_sat - 1;
  trimmed_sat = counted * (limit_sat + fee_sat_of (htlc_weight Received) feerate_per_kw - 1);
  rest_msat = (1 + counted) * (MSAT_PER_SAT - 1);
}

-- each deduction is at most another
pub record AreAtMost (d e : Deductions) : Type 0 where
  pub fee : d.fee_sat ≤ e.fee_sat
  pub dust : d.dust_sat ≤ e.dust_sat
  pub trimmed : d.trimmed_sat ≤ e.trimmed_sat
  pub rest : d.rest_msat ≤ e.rest_msat

-- the feerate of a view and the dust limit of the commitment's owner are at most these
pub record IsWithin (terms : Terms) (view : View) (owner : Side) (feerate_per_kw limit_sat : ℕ) : Type 0 where
  pub feerate : view.feerate_per_kw ≤ feerate_per_kw
  pub limit : (party owner terms).dust_sat ≤ limit_sat

abbrev pub DeductionsAreBounded : Type 0
DeductionsAreBounded =
    (terms : Terms) (view : View) (own : Bool) (me : Side) (known : Htlc → Bool) (feerate_per_kw limit_sat : ℕ) → IsWithin terms view (owner_by own me) feerate_per_kw limit_sat
    → AreAtMost (deductions terms view own me known) (greatest terms.opener me feerate_per_kw limit_sat (htlc_count view) (counted_count known me view))

-- those of both sides, of the owner's commitment
abbrev pub greatest_of_both : Terms → View → (owner : Side) → (feerate_per_kw limit_sat : ℕ) → Deductions
greatest_of_both terms view owner feerate_per_kw limit_sat =
    together (greatest terms.opener owner feerate_per_kw limit_sat (htlc_count view) (counted_count none_known owner view))
    (greatest terms.opener (other owner) feerate_per_kw limit_sat (htlc_count view) (counted_count none_known (other owner) view))

abbrev pub AllAreBounded : Type 0
AllAreBounded =
    (terms : Terms) (view : View) (owner : Side) (feerate_per_kw limit_sat : ℕ) → IsWithin terms view owner feerate_per_kw limit_sat
    → AreAtMost (all_deductions terms view owner) (greatest_of_both terms view owner feerate_per_kw limit_sat)

-- so the outputs on which a side counts are worth what it counts on, less that much at most
abbrev pub LittleIsTakenOff : Type 0
LittleIsTakenOff =
    (terms : Terms) (view : View) (own : Bool) (me : Side) (n : ℕ) (point : List ℕ) (known : Htlc → Bool) (feerate_per_kw limit_sat : ℕ) → IsWithin terms view (owner_by own me) feerate_per_kw limit_sat
    → counted_msat known me view
    ≤ MSAT_PER_SAT * counted_sat own known (commitment_of terms view (owner_by own me) n point).outputs
    + deducted_msat (greatest terms.opener me feerate_per_kw limit_sat (htlc_count view) (counted_count known me view))

-- and all outputs are worth the capacity, less as much for both sides
abbrev pub LittleOfAllIsTakenOff : Type 0
LittleOfAllIsTakenOff =
    (terms : Terms) (view : View) (owner : Side) (n : ℕ) (point : List ℕ) (feerate_per_kw limit_sat : ℕ) → IsWithin terms view owner feerate_per_kw limit_sat
    → total_msat_of view ≡ MSAT_PER_SAT * terms.capacity_sat
    → MSAT_PER_SAT * terms.capacity_sat
    ≤ MSAT_PER_SAT * values_sat (commitment_of terms view owner n point).outputs
    + deducted_msat (greatest_of_both terms view owner feerate_per_kw limit_sat)
