-- The uncommitted updates of a side: each could be made again once its connection was cut, whatever its peer sends.
use Rattle.std.specs.Prelude.{◌≡◌, List, [], ◌∷◌, None}
use Rattle.terms.specs.declared.sides.Side.{Side}
use Rattle.terms.specs.declared.agreement.Terms.{Terms}
use Rattle.updates.specs.declared.changes.Update.{Update}
use Rattle.updates.specs.Stages.{uncommitted}
use Rattle.updates.specs.Refusals.{first_refusal}
use Rattle.updates.specs.Steady.{Held, own_tests, their_tests, holding_none, holding_made, holding_signed, holding_update, holding_signature, holding_revocation, holding_committed}

-- what a side may come to hold, by updates that pass their tests, signatures, revocations and cuts
pub data IsHolding : Held → Type 0 where
  nothing : (terms : Terms) (side : Side) → IsHolding (holding_none terms side)
  made : {h : Held} (u : Update) → first_refusal (own_tests h u) ≡ None → IsHolding h → IsHolding (holding_made u h)
  signed : {h : Held} → IsHolding h → IsHolding (holding_signed h)
  updated : {h : Held} (u : Update) → first_refusal (their_tests h u) ≡ None → IsHolding h → IsHolding (holding_update u h)
  answered : {h : Held} → IsHolding h → IsHolding (holding_signature h)
  acknowledged : {h : Held} → IsHolding h → IsHolding (holding_revocation h)
  cut_off : {h : Held} → IsHolding h → IsHolding (holding_committed h)

-- updates of one's own that pass their tests one after another
abbrev pub CanMake : Held → List Update → Type 0
CanMake h [] = Unit {0}
CanMake h (u ∷ us) = (first_refusal (own_tests h u) ≡ None) × CanMake (holding_made u h) us

-- the updates that no signature covers could be made again after a cut
abbrev pub CanRemake : Held → Type 0
CanRemake h = CanMake (holding_committed h) (uncommitted h.own)

abbrev pub UncommittedAreRemade : Type 0
UncommittedAreRemade = (h : Held) → IsHolding h → CanRemake h

-- a side with other updates of its own
abbrev pub knowing : List Update → Held → Held
knowing us h = record h { own = record h.own { known = us } }
