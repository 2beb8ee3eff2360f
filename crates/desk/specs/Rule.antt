-- The rule of the desk's queue: one book, whose history is the one that the desk was made with, followed by exactly the calls of the seats.
use Rattle.std.specs.Prelude.{◌≡◌, ◌≢◌, ℕ, ◌+◌, ◌<◌, ◌≤◌, ◌⊎◌, true, false, if◌then◌else◌, List, [], ◌∷◌, ◌++◌, length, Some, None}
use Rattle.std.specs.List.{AllByRecursion}
use mathlib.Core.Option.{some}
use lib.ListN.{get_elem?}
use Rattle.channel.specs.Tokens.{peer_tokens}
use Rattle.book.specs.declared.calls.Entry.{Entry}
use Rattle.book.specs.Accepted.{all_accepted}
use Rattle.book.specs.Guarding.{is_guarded}
use Rattle.desk.specs.declared.rule.Heard.{Heard}
use Rattle.desk.specs.declared.rule.SeatView.{SeatView}
use Rattle.desk.specs.Histories.{History, GoesOn, calls_of, first_seat}

-- ---- what a seat knows

-- the view of the last seat, which has made no call, at a desk made with this history
abbrev pub last_view : ℕ → History → SeatView
last_view number opening =
    record { is_new = false; is_last = true; number = number; opening = opening; calls = []; last = opening; book = None; heard = []; is_spent = false }

-- the view before the book is put in
abbrev pub fresh : SeatView
fresh = record { is_new = true; is_last = true; number = 0; opening = []; calls = []; last = []; book = None; heard = []; is_spent = false }

-- the view after it is put in
abbrev pub opened : History → SeatView
opened history = last_view (first_seat history) history

-- the view after it is taken
abbrev pub taken : SeatView → History → SeatView
taken v history = record v { book = Some history }

-- the view after it is put back
abbrev pub returned : SeatView → History → SeatView
returned v history = record v { calls = calls_of v.number history; last = history; book = None }

-- the last seat gives its number to a new seat, and takes the next one
abbrev pub moved_on : SeatView → SeatView
moved_on v = record v { number = v.number + 1; calls = [] }

abbrev pub left_behind : SeatView → SeatView
left_behind v = record v { is_last = false; heard = [] }

-- what another seat leaves of a seat that it takes in
abbrev pub heard_of : SeatView → Heard
heard_of v = record { number = v.number; calls = v.calls; last = v.last }

-- a seat takes in another one, with those that came home to it
abbrev pub joined : SeatView → SeatView → SeatView
joined v w = record v { heard = heard_of w ∷ w.heard ++ v.heard }

-- the view that is left of it
abbrev pub spent : SeatView
spent = record { is_new = false; is_last = false; number = 0; opening = []; calls = []; last = []; book = None; heard = []; is_spent = true }

-- ---- the rule, over what the queue holds and the views of all passes, indexed by the number of the pass

abbrev pub At : List SeatView → ℕ → SeatView → Type 0
At views pass v = get_elem? views pass ≡ some v

-- the same of a seat that was not taken in
abbrev pub Live : List SeatView → ℕ → SeatView → Type 0
Live views pass v = At views pass v × (v.is_spent ≡ false)

-- no seat has a number, and none heard of one with it
abbrev pub IsNobodys : List SeatView → ℕ → Type 0
IsNobodys views n = (pass : ℕ) (v : SeatView) → Live views pass v → (v.number ≢ n) × AllByRecursion (λ h. h.number ≢ n) v.heard

-- the entries of a seat that came home are its calls, and the history extends what it last put back
pub record IsHeard (opening history : History) (h : Heard) : Type 0 where
  pub calls : calls_of h.number history ≡ h.calls
  pub since : GoesOn h.last history
  pub later : first_seat opening ≤ h.number

-- how many seats a view stands for: itself and those that came home to it; none once it was taken in
abbrev pub weight_of : SeatView → ℕ
weight_of v = if v.is_spent then 0 else length v.heard + 1

abbrev pub seats_in : List SeatView → ℕ
seats_in [] = 0
seats_in (v ∷ vs) = weight_of v + seats_in vs

-- the book lies in the queue, and is out with no seat
pub record InQueue (items : List History) (views : List SeatView) (history : History) : Type 0 where
  pub one : items ≡ history ∷ []
  pub nobody : (pass : ℕ) (v : SeatView) → At views pass v → v.book ≡ None

-- the queue is empty, and the book is out with one seat
pub record IsOut (items : List History) (views : List SeatView) (history : History) : Type 0 where
  pub empty : items ≡ []
  pub holder : ℕ
  pub held : (v : SeatView) × At views holder v × (v.book ≡ Some history)
  pub only : (pass : ℕ) (v : SeatView) → At views pass v → (v.book ≡ None) ⊎ ((pass ≡ holder) × (v.book ≡ Some history))

-- the book was put in; it is in the queue, or out with the history that it had when it was taken
pub record IsSeated (items : List History) (views : List SeatView) : Type 0 where
  pub opening : History
  pub history : History
  pub place : InQueue items views history ⊎ IsOut items views history
  pub accepted : all_accepted peer_tokens history ≡ true
  pub guarded : is_guarded history ≡ true
  -- all seats know the history with which the desk was made
  pub made_with : (pass : ℕ) (v : SeatView) → Live views pass v → v.opening ≡ opening
  -- the history extends it, and what each seat last put back
  pub began : GoesOn opening history
  pub since : (pass : ℕ) (v : SeatView) → Live views pass v → GoesOn v.last history
  -- the entries of each seat are its calls, each once and in order
  pub parts : (pass : ℕ) (v : SeatView) → Live views pass v → v.calls ≡ calls_of v.number history
  -- the same of the seats that came home
  pub heard : (pass : ℕ) (v : SeatView) → Live views pass v → AllByRecursion (IsHeard opening history) v.heard
  -- the entries of a number that no seat has or had do not change
  pub others : (n : ℕ) → IsNobodys views n → calls_of n history ≡ calls_of n opening
  -- seats have distinct numbers, which do not stand in the history that the desk was made with; the last seat has the greatest
  pub apart : (p q : ℕ) (v w : SeatView) → Live views p v → Live views q w → v.number ≡ w.number → p ≡ q
  pub later : (pass : ℕ) (v : SeatView) → Live views pass v → first_seat opening ≤ v.number
  pub greatest : (p q : ℕ) (v w : SeatView) → Live views p v → v.is_last ≡ true → Live views q w → w.number ≤ v.number
  -- those that came home have other numbers than the seats, and no greater ones than the last
  pub heard_apart : (p q : ℕ) (v w : SeatView) → Live views p v → Live views q w → AllByRecursion (λ h. h.number ≢ v.number) w.heard
  pub heard_below : (p q : ℕ) (v w : SeatView) → Live views p v → v.is_last ≡ true → Live views q w → AllByRecursion (λ h. h.number ≤ v.number) w.heard
  -- there are as many, with those that came home, as numbers from the first to the last
  pub all : (pass : ℕ) (v : SeatView) → Live views pass v → v.is_last ≡ true → first_seat opening + seats_in views ≡ v.number + 1
  pub old : (pass : ℕ) (v : SeatView) → At views pass v → v.is_new ≡ false

-- nothing was put in yet
abbrev pub IsUnopened : List History → List SeatView → Type 0
IsUnopened items views = (items ≡ []) × (views ≡ fresh ∷ [])

abbrev pub IsOneBook : List History → List SeatView → Type 0
IsOneBook items views = IsUnopened items views ⊎ IsSeated items views

-- ---- two kinds of step

-- the entries of numbers above one and below the first of a desk are those that the desk was made with
abbrev pub HasNoOthers : ℕ → History → History → Type 0
HasNoOthers number opening history = (n : ℕ) → (number < n) ⊎ (n < first_seat opening) → calls_of n history ≡ calls_of n opening

-- the numbers without new entries, but for one's own and those that one heard
abbrev pub HasHeardAll : ℕ → List Heard → History → History → Type 0
HasHeardAll number heard opening history = (n : ℕ) → number ≢ n → AllByRecursion (λ h. h.number ≢ n) heard → calls_of n history ≡ calls_of n opening

-- the book was taken: its history is accepted and guarded, the seat's entries in it are the seat's calls, and it extends the one that the seat last put back. The same holds of each seat that came
-- home to it. No entry is of a number above that of the desk's last seat; once all others came home to that one, each later entry is its own or theirs
pub record IsTaken (v : SeatView) (history : History) (w : SeatView) : Type 0 where
  pub accepted : all_accepted peer_tokens history ≡ true
  pub guarded : is_guarded history ≡ true
  pub mine : calls_of v.number history ≡ v.calls
  pub since : GoesOn v.last history
  pub began : GoesOn v.opening history
  pub heard : AllByRecursion (IsHeard v.opening history) v.heard
  pub alone : v.is_last ≡ true → HasNoOthers v.number v.opening history
  pub whole : v.is_last ≡ true → first_seat v.opening + length v.heard ≡ v.number → HasHeardAll v.number v.heard v.opening history
  pub out : w ≡ taken v history

-- the book may be put back: its history is as it was, or has one more call, of this seat
abbrev pub Follows : ℕ → History → History → Type 0
Follows seat before after = (after ≡ before) ⊎ ((e : Entry) × (e.seat ≡ seat) × (after ≡ before ++ e ∷ []))
