-- The order of marks, and marks as words.
use Rattle.std.specs.Prelude.{◌≡◌, ℕ, ◌+◌, ◌*◌, ◌/◌, ◌%◌, ◌^◌, ◌==◌, ◌⊎◌, ◌&&◌, ◌||◌, Bool, List, nat_lt, nat_le, Contains}
use Rattle.std.specs.List.{AllPass}
use Rattle.board.specs.declared.marks.Mark.{Mark}

abbrev pub mark : ℕ → ℕ → Mark
mark round height = record { round = round; height = height }

-- the top before any seat raised one
abbrev pub start : Mark
start = mark 0 0

-- an older round, or the same round and at most the same height
abbrev pub at_most : Mark → Mark → Bool
at_most a b = nat_lt a.round b.round || (a.round == b.round && nat_le a.height b.height)

-- no mark of the list is greater, and it stands in the list or is (0, 0)
pub record IsGreatest (top : Mark) (marks : List Mark) : Type 0 where
  pub bound : AllPass (λ m. at_most m top) marks
  pub reached : (top ≡ start) ⊎ Contains marks top

-- a mark as one word of 64 bits: the round in the upper half, the height in the lower
abbrev pub word_of : Mark → ℕ
word_of m = m.round * 2 ^ 32 + m.height

abbrev pub mark_in : ℕ → Mark
mark_in word = mark (word / 2 ^ 32) (word % 2 ^ 32)
