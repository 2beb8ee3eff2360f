-- The commitments of each side that a channel records: by number, each with a view that shares out the capacity.
use Rattle.std.specs.Prelude.{◌≡◌, ℕ, ◌*◌, ◌≤◌, List, length, slice_get, Some, IsTrue}
use Rattle.terms.specs.declared.sides.Side.{Side}
use Rattle.terms.specs.declared.agreement.Terms.{Terms}
use Rattle.terms.specs.declared.views.View.{View}
use Rattle.terms.specs.declared.amounts.TheConstants.{MSAT_PER_SAT}
use Rattle.updates.specs.declared.limits.TheConstants.{MAX_HTLCS}
use Rattle.updates.specs.Views.{expire_at_heights}
use Rattle.commit.specs.Sums.{total_msat_of}
use Rattle.channel.specs.declared.commitments.CommitmentState.{CommitmentState}

-- balances and HTLCs together are the capacity, no side has more HTLCs than allowed, and each expires at a height
pub record SharesOut (terms : Terms) (view : View) : Type 0 where
  pub few_of_a : length view.a.offered ≤ MAX_HTLCS
  pub few_of_b : length view.b.offered ≤ MAX_HTLCS
  pub heights_of_a : IsTrue (expire_at_heights view.a.offered)
  pub heights_of_b : IsTrue (expire_at_heights view.b.offered)
  pub whole : total_msat_of view ≡ MSAT_PER_SAT * terms.capacity_sat

-- a commitment of this side and number, whose view shares out the capacity
pub record IsNumbered (terms : Terms) (side : Side) (n : ℕ) (c : CommitmentState) : Type 0 where
  pub owner : c.owner ≡ side
  pub number : c.number ≡ n
  pub shares : SharesOut terms c.view

-- this many commitments of a side, by number
pub record AreNumbered (terms : Terms) (side : Side) (many : ℕ)
    (cs : List CommitmentState) : Type 0 where
  pub count : length cs ≡ many
  pub each : (n : ℕ) (c : CommitmentState) → slice_get cs n ≡ Some c → IsNumbered terms side n c
