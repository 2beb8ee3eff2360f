-- What a side's outputs are worth by the amounts of a commitment, which are there before any script is made and before the outputs are sorted.
use Rattle.std.specs.Prelude.{◌≡◌, ℕ, ◌+◌, Bool, true, false, List, Option, unwrap_or}
use Rattle.std.specs.List.{filter}
use Rattle.terms.specs.declared.htlcs.Htlc.{Htlc}
use Rattle.terms.specs.declared.sides.Side.{Side}
use Rattle.terms.specs.declared.agreement.Terms.{Terms}
use Rattle.terms.specs.declared.views.View.{View}
use Rattle.commit.specs.declared.amounts.Amounts.{Amounts}
use Rattle.commit.specs.Amounts.{amounts_of}
use Rattle.commit.specs.Sums.{worth_sat_of, paid_out_sat}
use Rattle.commit.specs.Commitments.{commitment_of}
use Rattle.worth_laws.specs.Shares.{values_sat, counted_sat}

-- the output to a side on its own commitment, or on its peer's; the HTLCs with an output that it offered, and those that were offered to it
abbrev pub main_of : (own : Bool) → Amounts → Option ℕ
main_of true a = a.to_local
main_of false a = a.to_remote

abbrev pub mine_of : (own : Bool) → Amounts → List Htlc
mine_of true a = a.offered
mine_of false a = a.received

abbrev pub theirs_of : (own : Bool) → Amounts → List Htlc
theirs_of true a = a.received
theirs_of false a = a.offered

-- the satoshis on which the side counts
abbrev pub placed_sat : (own : Bool) → (Htlc → Bool) → Amounts → ℕ
placed_sat own known a = unwrap_or (main_of own a) 0 + worth_sat_of (mine_of own a) + worth_sat_of (filter known (theirs_of own a))

-- the outputs on which a side counts are worth that, and all outputs are worth what the amounts pay out, whatever scripts and order they have
pub record SharesArePlaced : Type 0 where
  pub counted : (terms : Terms) (view : View) (owner : Side) (own : Bool) (n : ℕ) (point : List ℕ) (known : Htlc → Bool)
      → counted_sat own known (commitment_of terms view owner n point).outputs ≡ placed_sat own known (amounts_of terms view owner)
  pub all : (terms : Terms) (view : View) (owner : Side) (n : ℕ) (point : List ℕ) → values_sat (commitment_of terms view owner n point).outputs ≡ paid_out_sat (amounts_of terms view owner)
