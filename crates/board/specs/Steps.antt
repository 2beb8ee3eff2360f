-- What the three kinds of step do.
use Rattle.std.specs.Prelude.{◌≡◌, ℕ, ◌+◌, ◌⊎◌, [], ◌∷◌, ◌++◌, IsTrue, Contains, slice_set}
use Rattle.std.specs.List.{AllPass}
use mathlib.Core.Option.{some}
use lib.ListN.{get_elem?}
use Rattle.atomic_table.specs.Table.{Step, Me}
use Rattle.board.specs.declared.marks.Mark.{Mark}
use Rattle.board.specs.declared.rule.SeatView.{SeatView}
use Rattle.board.specs.Order.{start, at_most, mark_in}
use Rattle.board.specs.Rule.{Standing, IsDrawnOnce, knows, drawn_by_all, raised_by_all}

-- one step of a seat, whose view changes from v to w: the rule holds before and after it, and no other seat's view changes
pub record IsStep (before after : Standing) (v w : SeatView) : Type 0 where
  pub seat : ℕ
  pub here : get_elem? before.views seat ≡ some v
  pub others : after.views ≡ slice_set before.views seat w
  pub stood : IsDrawnOnce before
  pub stands : IsDrawnOnce after

-- the mark was raised: it is the seat's newest one, and the top is not below it or below the earlier top
pub record Raised (v : SeatView) (raised : Mark) (w : SeatView) : Type 0 where
  pub before : Standing
  pub after : Standing
  pub step : IsStep before after v w
  pub reached : IsTrue (at_most raised after.top)
  pub kept : IsTrue (at_most before.top after.top)
  pub no_ticket : after.draws ≡ before.draws
  pub added : w ≡ knows v.shares v.drawn (v.raised ++ raised ∷ []) v.looked

-- the top was looked up: it is the seat's newest look, not below what the
-- seat raised or looked up before, and some seat raised it (or it is (0, 0))
pub record Looked (v : SeatView) (found : Mark) (w : SeatView) : Type 0 where
  pub before : Standing
  pub after : Standing
  pub step : IsStep before after v w
  pub is_top : before.top ≡ found
  pub same_top : after.top ≡ found
  pub no_ticket : after.draws ≡ before.draws
  pub above_raised : AllPass (λ m. at_most m found) v.raised
  pub above_looked : AllPass (λ m. at_most m found) v.looked
  pub from_a_seat : (found ≡ start) ⊎ Contains (raised_by_all before.views) found
  pub added : w ≡ knows v.shares v.drawn v.raised (v.looked ++ found ∷ [])

-- the ticket was drawn: it is the seat's newest one, equal to the count before the step, and no seat had it
pub record Drawn (v : SeatView) (ticket : ℕ) (w : SeatView) : Type 0 where
  pub before : Standing
  pub after : Standing
  pub step : IsStep before after v w
  pub is_count : before.draws ≡ ticket
  pub counted : after.draws ≡ ticket + 1
  pub same_top : after.top ≡ before.top
  pub is_new : ¬ Contains (drawn_by_all before.views) ticket
  pub added : w ≡ knows v.shares (v.drawn ++ ticket ∷ []) v.raised v.looked

abbrev pub Raises : Step (Unit {0}) → Me (Unit {0}) SeatView → ℕ → Me (Unit {0}) SeatView → Type 0
Raises s v found w = Raised v.0 (mark_in s.first) w.0 × (w.1 ≡ [])

abbrev pub Looks : Step (Unit {0}) → Me (Unit {0}) SeatView → ℕ → Me (Unit {0}) SeatView → Type 0
Looks s v found w = Looked v.0 (mark_in found) w.0 × (w.1 ≡ [])

abbrev pub Draws : Step (Unit {0}) → Me (Unit {0}) SeatView → ℕ → Me (Unit {0}) SeatView → Type 0
Draws s v found w = Drawn v.0 found w.0 × (w.1 ≡ [])
