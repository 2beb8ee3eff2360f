-- Histories of a book, and the calls of one seat in them.
use Rattle.std.specs.Prelude.{◌≡◌, ℕ, ◌+◌, ◌==◌, max, List, [], ◌∷◌, ◌++◌, filter}
use Rattle.book.specs.declared.calls.Entry.{Entry}

abbrev pub History : Type 0
History = List Entry

-- a history extends another one, which is its beginning
abbrev pub GoesOn : History → History → Type 0
GoesOn before after = (later : List Entry) × (after ≡ before ++ later)

-- the entries of a seat, in order
abbrev pub calls_of : ℕ → History → List Entry
calls_of seat history = filter (λ e. e.seat == seat) history

-- the number after the greatest one, or 0
abbrev pub first_seat : History → ℕ
first_seat [] = 0
first_seat (e ∷ es) = max (e.seat + 1) (first_seat es)
