-- The amounts of a commitment (BOLT 3, "Commitment Transaction Outputs", "Fees" and "Trimmed Outputs").
use Rattle.std.specs.Prelude.{ℕ, ◌+◌, ◌-◌, not, nat_lt, if◌then◌else◌, List, length, Option, Some, None}
use Rattle.std.specs.List.{filter}
use Rattle.terms.specs.declared.htlcs.Htlc.{Htlc}
use Rattle.terms.specs.declared.sides.Side.{Side}
use Rattle.terms.specs.declared.sides.Side.TheVariants.{A, B}
use Rattle.terms.specs.declared.agreement.Terms.{Terms}
use Rattle.terms.specs.declared.views.View.{View}
use Rattle.terms.specs.Agreement.{party}
use Rattle.terms.specs.Sides.{other}
use Rattle.terms.specs.Views.{share}
use Rattle.commit.specs.declared.fees.Direction.{Direction}
use Rattle.commit.specs.declared.fees.Direction.TheVariants.{Offered, Received}
use Rattle.commit.specs.declared.amounts.Amounts.{Amounts}
use Rattle.commit.specs.Fees.{satoshis_of, fee_sat_of, commitment_weight, is_trimmed_by}

-- the HTLCs that have an output on the owner's commitment
abbrev pub untrimmed : ℕ → ℕ → Direction → List Htlc → List Htlc
untrimmed dust_sat feerate_per_kw direction htlcs = filter (λ h. not (is_trimmed_by dust_sat feerate_per_kw direction h)) htlcs

-- what a side owes of a fee: the opener pays all of it
abbrev pub owed_sat_by : Side → Side → ℕ → ℕ
owed_sat_by A A fee = fee
owed_sat_by B B fee = fee
owed_sat_by side opener fee = 0

-- a side's balance in satoshis, less what it owes of the fee; 0 if it owes more than that
abbrev pub left_sat_to : Side → Side → ℕ → View → ℕ
left_sat_to side opener fee view = satoshis_of (share side view).balance_msat - owed_sat_by side opener fee

-- an output below the dust limit is left out
abbrev pub unless_dust : ℕ → ℕ → Option ℕ
unless_dust dust_sat value = if nat_lt value dust_sat then None else Some value

-- the amounts, with the HTLCs that have an output
abbrev pub amounts_with : Terms → View → Side → List Htlc → List Htlc → ℕ → Amounts
amounts_with terms view owner offered received fee = record {
  offered = offered;
  received = received;
  fee = fee;
  to_local = unless_dust (party owner terms).dust_sat (left_sat_to owner terms.opener fee view);
  to_remote = unless_dust (party owner terms).dust_sat (left_sat_to (other owner) terms.opener fee view);
}

abbrev pub fee_sat_with : ℕ → List Htlc → List Htlc → ℕ
fee_sat_with feerate_per_kw offered received = fee_sat_of (commitment_weight (length offered + length received)) feerate_per_kw

abbrev pub offered_of : Terms → View → Side → List Htlc
offered_of t v by = untrimmed (party by t).dust_sat v.feerate_per_kw Offered (share by v).offered

abbrev pub received_of : Terms → View → Side → List Htlc
received_of t v by = untrimmed (party by t).dust_sat v.feerate_per_kw Received (share (other by) v).offered

-- the amounts of the owner's commitment of a view
abbrev pub amounts_of : Terms → View → Side → Amounts
amounts_of t v by = amounts_with t v by (offered_of t v by) (received_of t v by)
    (fee_sat_with v.feerate_per_kw (offered_of t v by) (received_of t v by))
