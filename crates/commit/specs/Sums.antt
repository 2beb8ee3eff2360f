-- Where the millisatoshis of a view go.
use Rattle.std.specs.Prelude.{◌≡◌, ℕ, ◌+◌, ◌*◌, ◌%◌, ◌≤◌, min, nat_lt, if◌then◌else◌, List, sum_by, unwrap_or}
use Rattle.std.specs.List.{filter}
use Rattle.terms.specs.declared.htlcs.Htlc.{Htlc}
use Rattle.terms.specs.declared.sides.Side.{Side}
use Rattle.terms.specs.declared.agreement.Terms.{Terms}
use Rattle.terms.specs.declared.views.View.{View}
use Rattle.terms.specs.Agreement.{party}
use Rattle.terms.specs.Sides.{other}
use Rattle.terms.specs.Views.{share}
use Rattle.commit.specs.declared.fees.Direction.{Direction}
use Rattle.commit.specs.declared.fees.Direction.TheVariants.{Offered, Received}
use Rattle.commit.specs.declared.amounts.Amounts.{Amounts}
use Rattle.terms.specs.declared.amounts.TheConstants.{MSAT_PER_SAT}
use Rattle.commit.specs.Fees.{satoshis_of, is_trimmed_by}
use Rattle.commit.specs.Amounts.{left_sat_to, amounts_of}

-- the millisatoshis of HTLCs, and of a view
abbrev pub millisatoshis_of : List Htlc → ℕ
millisatoshis_of htlcs = sum_by (λ htlc. htlc.amount_msat) htlcs

abbrev pub total_msat_of : View → ℕ
total_msat_of view = view.a.balance_msat + millisatoshis_of view.a.offered
    + (view.b.balance_msat + millisatoshis_of view.b.offered)

-- the satoshis of HTLCs, each rounded down
abbrev pub worth_sat_of : List Htlc → ℕ
worth_sat_of htlcs = sum_by (λ htlc. satoshis_of htlc.amount_msat) htlcs

-- the satoshis of all outputs
abbrev pub paid_out_sat : Amounts → ℕ
paid_out_sat a = worth_sat_of a.offered + worth_sat_of a.received + (unwrap_or a.to_local 0 + unwrap_or a.to_remote 0)

-- the satoshis that the opener pays for the transaction: the fee, as far as its balance goes
abbrev pub fee_paid_sat : Terms → View → Side → ℕ
fee_paid_sat terms view owner = min (amounts_of terms view owner).fee (satoshis_of (share terms.opener view).balance_msat)

-- the satoshis that have no output: those of trimmed HTLCs, and balances below the dust limit
abbrev pub trimmed_sat : ℕ → ℕ → Direction → List Htlc → ℕ
trimmed_sat dust_sat feerate_per_kw direction htlcs = worth_sat_of (filter (is_trimmed_by dust_sat feerate_per_kw direction) htlcs)

abbrev pub dust_sat_of : ℕ → ℕ → ℕ
dust_sat_of dust_sat value = if nat_lt value dust_sat then value else 0

abbrev pub left_out_sat : Terms → View → Side → ℕ
left_out_sat terms view owner =
    trimmed_sat (party owner terms).dust_sat view.feerate_per_kw Offered (share owner view).offered
    + trimmed_sat (party owner terms).dust_sat view.feerate_per_kw Received (share (other owner) view).offered
    + (dust_sat_of (party owner terms).dust_sat (left_sat_to owner terms.opener (amounts_of terms view owner).fee view)
    + dust_sat_of (party owner terms).dust_sat (left_sat_to (other owner) terms.opener (amounts_of terms view owner).fee view))

-- the millisatoshis that are lost by rounding down
abbrev pub rests_msat_of : List Htlc → ℕ
rests_msat_of htlcs = sum_by (λ htlc. htlc.amount_msat % MSAT_PER_SAT) htlcs

abbrev pub rounded_off_msat : View → ℕ
rounded_off_msat view = view.a.balance_msat % MSAT_PER_SAT + rests_msat_of view.a.offered + (view.b.balance_msat % MSAT_PER_SAT + rests_msat_of view.b.offered)

-- each millisatoshi of a view is in an output, pays the fee, is left out, or is rounded off
abbrev pub EachIsPlaced : Type 0
EachIsPlaced =
    (terms : Terms) (view : View) (owner : Side)
    → MSAT_PER_SAT * (paid_out_sat (amounts_of terms view owner) + fee_paid_sat terms view owner + left_out_sat terms view owner) + rounded_off_msat view ≡ total_msat_of view

-- the outputs and the fee of a view that shares out the capacity are at most the capacity
abbrev pub NothingIsCreated : Type 0
NothingIsCreated =
    (terms : Terms) (view : View) (owner : Side) → total_msat_of view ≡ MSAT_PER_SAT * terms.capacity_sat
    → paid_out_sat (amounts_of terms view owner) + fee_paid_sat terms view owner ≤ terms.capacity_sat
