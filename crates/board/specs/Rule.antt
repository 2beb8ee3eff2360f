-- The rule of the board: the seats' tickets are the numbers below the count, each once, and the top is the greatest mark that any seat raised.
use Rattle.std.specs.Prelude.{◌≡◌, ℕ, zero, suc, ◌-◌, ◌*◌, ◌<◌, ◌≤◌, ◌^◌, List, [], ◌∷◌, ◌++◌, length, IsPermutation, sum_by}
use Rattle.std.specs.List.{flat_map, AllPass}
use mathlib.Core.Option.{some}
use lib.ListN.{get_elem?}
use Rattle.board.specs.declared.marks.Mark.{Mark}
use Rattle.board.specs.declared.rule.SeatView.{SeatView}
use Rattle.board.specs.Order.{at_most, word_of, IsGreatest}

abbrev pub knows : ℕ → List ℕ → List Mark → List Mark → SeatView
knows shares drawn raised looked = record { shares = shares; drawn = drawn; raised = raised; looked = looked }

-- the tickets of all seats
abbrev pub drawn_by_all : List SeatView → List ℕ
drawn_by_all views = flat_map (λ v. v.drawn) views

-- the marks that all seats raised
abbrev pub raised_by_all : List SeatView → List Mark
raised_by_all views = flat_map (λ v. v.raised) views

-- 0, 1, .. up to n - 1
abbrev pub numbers_below : ℕ → List ℕ
numbers_below zero = []
numbers_below (suc n) = numbers_below n ++ n ∷ []

-- the state of the board at one moment: its top, the number of tickets drawn, and what each seat knows, by the seat's number
pub record Standing : Type 0 where
  pub top : Mark
  pub draws : ℕ
  pub views : List SeatView

-- the tickets in all seats' views are the numbers below the count, each once, and the top is the greatest mark that any seat raised
pub record IsDrawnOnce (s : Standing) : Type 0 where
  pub tickets : IsPermutation (drawn_by_all s.views) (numbers_below s.draws)
  pub top : IsGreatest s.top (raised_by_all s.views)

-- There are 65,536 shares, at least one for each seat. They keep the count from wrapping: a seat draws at most 2^32 tickets for each of its shares. And they tell
-- whether there are other seats: where some seats hold all shares (`HoldAllShares`), there are none.

abbrev pub everything : SeatView
everything = knows 65536 [] [] []

abbrev pub one_share : SeatView
one_share = knows 1 [] [] []

abbrev pub less_one : SeatView → SeatView
less_one v = knows (v.shares - 1) v.drawn v.raised v.looked

-- the two words encode a top and a count that agree with the seats' views
pub record IsBoard (words : List ℕ) (views : List SeatView) : Type 0 where
  pub top : Mark
  pub draws : ℕ
  pub words_are : words ≡ word_of top ∷ draws ∷ []
  pub low : top.height < 2 ^ 32
  pub drawn_once : IsDrawnOnce (record { top = top; draws = draws; views = views })
  pub shares : sum_by (λ v. v.shares) views ≡ 65536
  pub has_share : (seat : ℕ) (v : SeatView) → get_elem? views seat ≡ some v → 0 < v.shares
  pub within : (seat : ℕ) (v : SeatView) → get_elem? views seat ≡ some v → length v.drawn ≤ 2 ^ 32 * v.shares
  -- what a seat looked up was the top then, so it is not above the top now
  pub looked : (seat : ℕ) (v : SeatView) → get_elem? views seat ≡ some v → AllPass (λ m. at_most m top) v.looked
