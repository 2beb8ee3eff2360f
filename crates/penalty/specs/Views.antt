-- The HTLCs of a view.
use Rattle.std.specs.Prelude.{ℕ, ◌+◌, ◌&&◌, nat_lt, Bool, List, length}
use Rattle.std.specs.List.{list_all}
use Rattle.script.specs.declared.limits.TheConstants.{LOCKTIME_THRESHOLD}
use Rattle.terms.specs.declared.htlcs.Htlc.{Htlc}
use Rattle.terms.specs.declared.views.View.{View}

-- the number of HTLCs of a view
abbrev pub htlc_count : View → ℕ
htlc_count view = length view.a.offered + length view.b.offered

-- each HTLC expires at a height (BIP 65)
abbrev pub expire_at_heights : List Htlc → Bool
expire_at_heights htlcs = list_all (λ h. nat_lt h.expiry_height LOCKTIME_THRESHOLD) htlcs

abbrev pub has_heights : View → Bool
has_heights view = expire_at_heights view.a.offered && expire_at_heights view.b.offered
