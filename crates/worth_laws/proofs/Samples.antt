-- Terms and views for the worked commitments.
use Rattle.std.proofs.Common.{ℕ, true, map, Bool, List, [], ◌∷◌, refl, lit≤, lit<}
use Rattle.std.specs.Prelude.{nat_lt}
use Rattle.tx.specs.declared.input.OutPoint.{OutPoint}
use Rattle.terms.specs.declared.htlcs.Htlc.{Htlc}
use Rattle.terms.specs.declared.sides.Side.{Side}
use Rattle.terms.specs.declared.agreement.BaseKeys.{BaseKeys}
use Rattle.terms.specs.declared.agreement.Party.{Party}
use Rattle.terms.specs.declared.agreement.Terms.{Terms}
use Rattle.terms.specs.declared.views.View.{View}

abbrev pub side : BaseKeys → ℕ → ℕ → Party
side bases dust_sat start_msat = record { dust_sat = dust_sat; delay_blocks = 144; minimum_msat = 0; start_msat = start_msat; bases = bases }

-- a channel of 100,000 satoshis, by its opener and the dust limits of A and B. No commitment uses the feerate of the terms: the views have their own
abbrev pub opened_by : OutPoint → BaseKeys → Side → ℕ → ℕ → Terms
opened_by funding bases opener dust-a dust-b = record {
  funding = funding;
  capacity_sat = 100000;
  opener = opener;
  feerate_per_kw = 5000;
  a = side bases dust-a 60000000;
  b = side bases dust-b 40000000;
  limited = lit≤ tt;
  whole = refl;
  short_a = lit< tt;
  short_b = lit< tt;
}

abbrev pub of_amount : ℕ → Htlc
of_amount amount_msat = record { id = 0; amount_msat = amount_msat; hash = []; expiry_height = 500 }

-- the balances of A and B, and the HTLCs that they offered, in millisatoshis
abbrev pub view : ℕ → ℕ → List ℕ → ℕ → List ℕ → View
view feerate_per_kw balance-a from-a balance-b from-b = record {
  a = record { balance_msat = balance-a; offered = map of_amount from-a };
  b = record { balance_msat = balance-b; offered = map of_amount from-b };
  feerate_per_kw = feerate_per_kw;
}

-- A offered 10,000.5 and 1,300 satoshis; B offered 11,999 and 300.999
abbrev pub mixed : View
mixed = view 1000 40000250 (10000500 ∷ 1300000 ∷ []) 36399251 (11999000 ∷ 300999 ∷ [])

abbrev pub all_known : Htlc → Bool
all_known h = true

-- those above 5,000 satoshis
abbrev pub large_known : Htlc → Bool
large_known h = nat_lt 5000000 h.amount_msat
