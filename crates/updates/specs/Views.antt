-- The view of a commitment: what two lists of updates give to each side (BOLT 2, BOLT 3).
use Rattle.std.specs.Prelude.{◌≡◌, ℕ, ◌+◌, ◌-◌, ◌*◌, ◌≤◌, nat_lt, Bool, List, length, IsTrue}
use Rattle.std.specs.List.{list_all}
use Rattle.updates.specs.declared.changes.Update.{Update}
use Rattle.terms.specs.declared.htlcs.Htlc.{Htlc}
use Rattle.terms.specs.declared.sides.Side.{Side}
use Rattle.terms.specs.declared.sides.Side.TheVariants.{A, B}
use Rattle.terms.specs.declared.agreement.Terms.{Terms}
use Rattle.terms.specs.declared.views.Share.{Share}
use Rattle.terms.specs.declared.views.View.{View}
use Rattle.terms.specs.declared.amounts.TheConstants.{MSAT_PER_SAT}
use Rattle.terms.specs.Agreement.{party}
use Rattle.updates.specs.declared.limits.TheConstants.{MAX_HTLCS, EXPIRY_HEIGHT_END}
use Rattle.updates.specs.Updates.{spent_msat, gained_msat, pending_msat, live, last_feerate_per_kw}

-- the starting balance of a side in millisatoshis
abbrev pub start_msat_of : Side → Terms → ℕ
start_msat_of side terms = (party side terms).start_msat

-- no balance below 0: what a side spent is at most what it began with and gained
abbrev pub IsCovered : ℕ → List Update → List Update → Type 0
IsCovered start_msat mine others = spent_msat mine others ≤ start_msat + gained_msat mine others

-- millisatoshis that a side has, by its updates and the other side's
abbrev pub balance_msat : ℕ → List Update → List Update → ℕ
balance_msat start_msat mine others = start_msat + gained_msat mine others - spent_msat mine others

-- the feerate, which only the opener's list changes
abbrev pub feerate_per_kw_of : Side → ℕ → List Update → List Update → ℕ
feerate_per_kw_of A feerate_per_kw xs ys = last_feerate_per_kw feerate_per_kw xs
feerate_per_kw_of B feerate_per_kw xs ys = last_feerate_per_kw feerate_per_kw ys

-- what a side has, and the HTLCs that it offered and nobody removed
abbrev pub share_of : ℕ → List Update → List Update → Share
share_of start_msat xs ys = record { balance_msat = balance_msat start_msat xs ys; offered = live xs ys }

-- the view of A's updates `xs` and B's `ys`
abbrev pub view_of : Terms → List Update → List Update → View
view_of terms xs ys = record {
  a = share_of terms.a.start_msat xs ys;
  b = share_of terms.b.start_msat ys xs;
  feerate_per_kw = feerate_per_kw_of terms.opener terms.feerate_per_kw xs ys;
}

-- the same, by one side's updates and the other's
abbrev pub view_by : Terms → Side → List Update → List Update → View
view_by terms A mine others = view_of terms mine others
view_by terms B mine others = view_of terms others mine

-- each HTLC expires at a height (BIP 65)
abbrev pub expire_at_heights : List Htlc → Bool
expire_at_heights htlcs = list_all (λ h. nat_lt h.expiry_height EXPIRY_HEIGHT_END) htlcs

-- what a sound view satisfies: no balance is below 0, balances and HTLCs sum to the capacity, at most 483 HTLCs of a side are live, and each
-- expires at a height
pub record IsSound (terms : Terms) (xs ys : List Update) : Type 0 where
  pub a : IsCovered terms.a.start_msat xs ys
  pub b : IsCovered terms.b.start_msat ys xs
  pub sum : balance_msat terms.a.start_msat xs ys + balance_msat terms.b.start_msat ys xs
      + pending_msat xs ys + pending_msat ys xs ≡ MSAT_PER_SAT * terms.capacity_sat
  pub few_of_a : length (live xs ys) ≤ MAX_HTLCS
  pub few_of_b : length (live ys xs) ≤ MAX_HTLCS
  pub heights_of_a : IsTrue (expire_at_heights (live xs ys))
  pub heights_of_b : IsTrue (expire_at_heights (live ys xs))

abbrev pub IsSoundBy : Terms → Side → List Update → List Update → Type 0
IsSoundBy terms A mine others = IsSound terms mine others
IsSoundBy terms B mine others = IsSound terms others mine
