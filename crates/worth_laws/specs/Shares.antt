-- What one side has on a commitment, and what is taken off on the way there from its balance (BOLT 3, "Commitment Transaction Outputs", "Fees", "Trimmed Outputs").
use Rattle.std.specs.Prelude.{◌≡◌, ℕ, ◌+◌, ◌*◌, ◌%◌, min, Bool, true, false, not, List, length, sum_by}
use Rattle.std.specs.List.{filter}
use Rattle.terms.specs.declared.amounts.TheConstants.{MSAT_PER_SAT}
use Rattle.terms.specs.declared.htlcs.Htlc.{Htlc}
use Rattle.terms.specs.declared.sides.Side.{Side}
use Rattle.terms.specs.declared.agreement.Terms.{Terms}
use Rattle.terms.specs.declared.views.View.{View}
use Rattle.terms.specs.Agreement.{party}
use Rattle.terms.specs.Sides.{other}
use Rattle.terms.specs.Views.{share}
use Rattle.commit.specs.declared.fees.Direction.{Direction}
use Rattle.commit.specs.declared.fees.Direction.TheVariants.{Offered, Received}
use Rattle.commit.specs.declared.outputs.OutputKind.{OutputKind}
use Rattle.commit.specs.declared.outputs.OutputKind.TheVariants.{ToLocal, ToRemote, ToHtlc}
use Rattle.commit.specs.declared.outputs.CommitmentOutput.{CommitmentOutput}
use Rattle.commit.specs.Fees.{satoshis_of, fee_sat_of, commitment_weight}
use Rattle.commit.specs.Amounts.{owed_sat_by, left_sat_to, untrimmed}
use Rattle.commit.specs.Sums.{millisatoshis_of, total_msat_of, dust_sat_of, trimmed_sat, rests_msat_of}
use Rattle.commit.specs.Commitments.{commitment_of}

-- Below, `own` says whether a commitment is the side's own or its peer's. Of the HTLCs that were offered to the side, it counts on those that are `known`: it has the preimage.

-- the side whose commitment it is
abbrev pub owner_by : (own : Bool) → Side → Side
owner_by true me = me
owner_by false me = other me

-- ---- what a side counts on

abbrev pub offered_by : Side → View → List Htlc
offered_by side view = (share side view).offered

abbrev pub known_to : (Htlc → Bool) → Side → View → List Htlc
known_to known me view = filter known (offered_by (other me) view)

-- its balance, the HTLCs that it offered, and those offered to it that are known
abbrev pub counted_msat : (Htlc → Bool) → Side → View → ℕ
counted_msat known me view = (share me view).balance_msat + millisatoshis_of (offered_by me view) + millisatoshis_of (known_to known me view)

-- the outputs on which it counts: to_local of its own commitment, to_remote of its peer's, and those of these HTLCs
abbrev pub counts_on : (own : Bool) → (Htlc → Bool) → OutputKind → Bool
counts_on own known ToLocal = own
counts_on own known ToRemote = not own
counts_on true known (ToHtlc Offered h) = true
counts_on true known (ToHtlc Received h) = known h
counts_on false known (ToHtlc Offered h) = known h
counts_on false known (ToHtlc Received h) = true

abbrev pub values_sat : List CommitmentOutput → ℕ
values_sat outputs = sum_by (λ o. o.value) outputs

abbrev pub counted_sat : (own : Bool) → (Htlc → Bool) → List CommitmentOutput → ℕ
counted_sat own known outputs = values_sat (filter (λ o. counts_on own known o.kind) outputs)

-- ---- what is taken off

pub record Deductions : Type 0 where
  pub fee_sat : ℕ  -- of the commitment's fee, which the opener pays as far as its balance goes
  pub dust_sat : ℕ  -- a balance that is below the dust limit once the fee is paid
  pub trimmed_sat : ℕ  -- HTLCs without an output
  pub rest_msat : ℕ  -- what is rounded off, of the balance and of each HTLC

-- all of them, in millisatoshis
abbrev pub deducted_msat : Deductions → ℕ
deducted_msat d = MSAT_PER_SAT * (d.fee_sat + d.dust_sat + d.trimmed_sat) + d.rest_msat

-- the direction, on a commitment, of the HTLCs that the side offered, and of those that were offered to it
abbrev pub direction_of_mine : (own : Bool) → Direction
direction_of_mine true = Offered
direction_of_mine false = Received

abbrev pub direction_of_theirs : (own : Bool) → Direction
direction_of_theirs true = Received
direction_of_theirs false = Offered

-- the number of HTLCs with an output on the owner's commitment, and its fee
abbrev pub untrimmed_count : Terms → View → (owner : Side) → ℕ
untrimmed_count terms view owner =
    let dust_sat = (party owner terms).dust_sat in
    length (untrimmed dust_sat view.feerate_per_kw Offered (offered_by owner view)) + length (untrimmed dust_sat view.feerate_per_kw Received (offered_by (other owner) view))

abbrev pub whole_fee_sat : Terms → View → (owner : Side) → ℕ
whole_fee_sat terms view owner = fee_sat_of (commitment_weight (untrimmed_count terms view owner)) view.feerate_per_kw

-- what is taken off of a side's, by the owner's dust limit and the view's feerate
abbrev pub deductions : Terms → View → (own : Bool) → Side → (Htlc → Bool) → Deductions
deductions terms view own me known =
    let limit_sat = (party (owner_by own me) terms).dust_sat in
    let fee_sat = whole_fee_sat terms view (owner_by own me) in
    record {
      fee_sat = min (owed_sat_by me terms.opener fee_sat) (satoshis_of (share me view).balance_msat);
      dust_sat = dust_sat_of limit_sat (left_sat_to me terms.opener fee_sat view);
      trimmed_sat = trimmed_sat limit_sat view.feerate_per_kw (direction_of_mine own) (offered_by me view)
          + trimmed_sat limit_sat view.feerate_per_kw (direction_of_theirs own) (known_to known me view);
      rest_msat = (share me view).balance_msat % MSAT_PER_SAT + rests_msat_of (offered_by me view) + rests_msat_of (known_to known me view);
    }

-- satoshis are this many millisatoshis, less deductions
abbrev pub IsLess : ℕ → Deductions → ℕ → Type 0
IsLess whole_msat d satoshis = MSAT_PER_SAT * satoshis + deducted_msat d ≡ whole_msat

-- the outputs on which a side counts are what it counts on, less its deductions
abbrev pub SharesAreWorth : Type 0
SharesAreWorth =
    (terms : Terms) (view : View) (own : Bool) (me : Side) (n : ℕ) (point : List ℕ) (known : Htlc → Bool)
    → IsLess (counted_msat known me view) (deductions terms view own me known) (counted_sat own known (commitment_of terms view (owner_by own me) n point).outputs)

-- ---- a revoked commitment, of which the owner's peer counts on all outputs

abbrev pub together : Deductions → Deductions → Deductions
together d e = record {
  fee_sat = d.fee_sat + e.fee_sat;
  dust_sat = d.dust_sat + e.dust_sat;
  trimmed_sat = d.trimmed_sat + e.trimmed_sat;
  rest_msat = d.rest_msat + e.rest_msat;
}

-- those of both sides, where each counts on the HTLCs that it offered, and on no others
abbrev pub none_known : Htlc → Bool
none_known h = false

abbrev pub all_deductions : Terms → View → (owner : Side) → Deductions
all_deductions terms view owner = together (deductions terms view true owner none_known) (deductions terms view false (other owner) none_known)

-- all outputs are the whole capacity, less the deductions of both sides
abbrev pub AllIsTheCapacity : Type 0
AllIsTheCapacity =
    (terms : Terms) (view : View) (owner : Side) (n : ℕ) (point : List ℕ) → total_msat_of view ≡ MSAT_PER_SAT * terms.capacity_sat
    → IsLess (MSAT_PER_SAT * terms.capacity_sat) (all_deductions terms view owner) (values_sat (commitment_of terms view owner n point).outputs)
