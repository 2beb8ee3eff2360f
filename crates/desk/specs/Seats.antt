-- Which seats belong to a desk, and what they know.
use Rattle.std.specs.Prelude.{◌≡◌, ℕ, Bool, true, false, List, [], ◌∷◌, ◌++◌, Option, None, All, map, length, IfSome}
use Rattle.std.specs.List.{range_with_len, last_or}
use Rattle.crossbeam_channel.specs.Claims.{Pass, view, IsSeatAt}
use Rattle.crossbeam_channel.specs.Ends.{sends_on, receives_on, ruled_capacity}
use Rattle.book.specs.declared.calls.Entry.{Entry}
use Rattle.desk.specs.declared.rule.Heard.{Heard}
use Rattle.desk.specs.declared.rule.SeatView.{SeatView}
use Rattle.desk.specs.declared.desk.Desk.{Desk}
use Rattle.desk.specs.declared.desk.Seat.{Seat}
use Rattle.desk.specs.Histories.{History}
use Rattle.desk.specs.Rule.{taken, heard_of}

abbrev pub DeskPass : Type 0
DeskPass = Pass History SeatView

abbrev pub number_in : Seat → ℕ
number_in seat = seat.number

-- the calls of this seat that the book accepted, in order
abbrev pub calls_in : Seat → List Entry
calls_in seat = (view seat.pass).calls

-- the book's history when the seat last put the book back, or when the desk was made
abbrev pub last_in : Seat → History
last_in seat = (view seat.pass).last

-- the history with which the desk of this seat was made
abbrev pub opening_in : Seat → History
opening_in seat = (view seat.pass).opening

-- whether this seat is the desk's last: no seat of the desk has a greater number
abbrev pub is_last_in : Seat → Bool
is_last_in seat = (view seat.pass).is_last

-- the seats that came home to this one, the latest first
abbrev pub heard_in : Seat → List Heard
heard_in seat = (view seat.pass).heard

-- the history of the book that is out with this seat
abbrev pub out_with : Seat → Option History
out_with seat = (view seat.pass).book

-- the queue has capacity one, and the pass is one of its passes
pub record IsPassOf (desk : Desk) (pass : DeskPass) : Type 0 where
  pub at : IsSeatAt (sends_on desk.sender) pass
  pub ends : receives_on desk.taker ≡ sends_on desk.sender
  pub one : ruled_capacity (sends_on desk.sender) ≡ 1

-- the seat belongs to the desk, and the book is not out with it
pub record IsSeatOf (desk : Desk) (seat : Seat) : Type 0 where
  pub pass : IsPassOf desk seat.pass
  pub old : (view seat.pass).is_new ≡ false
  pub idle : (view seat.pass).book ≡ None
  pub live : (view seat.pass).is_spent ≡ false
  pub number : (view seat.pass).number ≡ seat.number

-- the view of a seat with this number before its first call, at a desk made with this history
pub record IsIdle (v : SeatView) (number : ℕ) (opening : History) : Type 0 where
  pub old : v.is_new ≡ false
  pub idle : v.book ≡ None
  pub live : v.is_spent ≡ false
  pub number_is : v.number ≡ number
  pub made_with : v.opening ≡ opening
  pub none : v.calls ≡ []
  pub seen : v.last ≡ opening
  pub alone : v.heard ≡ []

-- a seat that has made no call, at a desk made with this history
pub record IsNewSeatOf (desk : Desk) (opening : History) (seat : Seat) : Type 0 where
  pub seat_of : IsSeatOf desk seat
  pub made_with : opening_in seat ≡ opening
  pub calls : calls_in seat ≡ []
  pub last : last_in seat ≡ opening
  pub heard : heard_in seat ≡ []

-- `count` seats that have made no call, numbered from `first` on
pub record AreSeats (desk : Desk) (opening : History) (first count : ℕ) (seats : List Seat) : Type 0 where
  pub each : All (IsNewSeatOf desk opening) seats
  pub numbers : map (λ (s : Seat). s.number) seats ≡ range_with_len first count
  pub many : length seats ≡ count

-- the last of these seats is the desk's last
abbrev pub EndsWithLast : List Seat → Type 0
EndsWithLast seats = IfSome (last_or None seats) (λ s. is_last_in s ≡ true)

-- the seat belongs to the desk as before: it has its number and its place, the desk was made with the same history, and the same seats came home to it
pub record IsSameSeat (desk : Desk) (before after : Seat) : Type 0 where
  pub seat_of : IsSeatOf desk after
  pub number : number_in after ≡ number_in before
  pub opening : opening_in after ≡ opening_in before
  pub place : is_last_in after ≡ is_last_in before
  pub heard : heard_in after ≡ heard_in before

-- it has its calls too
pub record HasSameCalls (desk : Desk) (before after : Seat) : Type 0 where
  pub seat_of : IsSeatOf desk after
  pub number : number_in after ≡ number_in before
  pub opening : opening_in after ≡ opening_in before
  pub place : is_last_in after ≡ is_last_in before
  pub heard : heard_in after ≡ heard_in before
  pub calls : calls_in after ≡ calls_in before

-- another seat came home to it, with those that came home to that one
pub record TakesIn (desk : Desk) (before other after : Seat) : Type 0 where
  pub seat_of : IsSeatOf desk after
  pub number : number_in after ≡ number_in before
  pub opening : opening_in after ≡ opening_in before
  pub place : is_last_in after ≡ is_last_in before
  pub calls : calls_in after ≡ calls_in before
  pub last : last_in after ≡ last_in before
  pub heard : heard_in after ≡ heard_of (view other.pass) ∷ heard_in other ++ heard_in before

-- the seat took the book out of the desk's queue, with this history, and all else is as before
pub record TakesBook (desk : Desk) (before after : Seat) (history : History) : Type 0 where
  pub pass : IsPassOf desk after.pass
  pub number : number_in after ≡ number_in before
  pub view_is : view after.pass ≡ taken (view before.pass) history
