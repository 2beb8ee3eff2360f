-- Which views a commitment can pay.
use Rattle.std.specs.Prelude.{◌≡◌, ℕ, ◌*◌, ◌≤◌, ◌==◌, not, nat_lt, if◌then◌else◌, Option, Some, None, IsTrue}
use Rattle.terms.specs.declared.amounts.TheConstants.{MSAT_PER_SAT}
use Rattle.terms.specs.declared.agreement.Terms.{Terms}
use Rattle.terms.specs.declared.views.View.{View}
use Rattle.commit.specs.Sums.{total_msat_of}
use Rattle.penalty.specs.Views.{htlc_count, has_heights}
use Rattle.penalty.specs.declared.errors.StateError.{StateError}
use Rattle.penalty.specs.declared.errors.StateError.TheVariants.{TooManyHtlcs, ExpiryTooLarge, WrongTotal}

-- the greatest number of HTLCs of a state
abbrev pub max_htlcs : ℕ
max_htlcs = 3998

-- the first reason why no commitment of the terms can pay a view
abbrev pub refusal_of : Terms → View → Option StateError
refusal_of terms view =
    if nat_lt max_htlcs (htlc_count view) then Some TooManyHtlcs
    else if not (has_heights view) then Some ExpiryTooLarge
    else if not (total_msat_of view == MSAT_PER_SAT * terms.capacity_sat) then Some WrongTotal
    else None

-- a commitment of the terms can pay the view
pub record CanPay (terms : Terms) (view : View) : Type 0 where
  pub few : htlc_count view ≤ max_htlcs
  pub heights : IsTrue (has_heights view)
  pub whole : total_msat_of view ≡ MSAT_PER_SAT * terms.capacity_sat
