-- Which seats belong to a board, and what they know.
use Rattle.std.specs.Prelude.{◌≡◌, ◌≤◌, ◌<◌, ◌^◌, ℕ, List, [], length, All, sum_by}
use Rattle.atomic_table.specs.declared.shared.Seat.{Seat as TableSeat}
use Rattle.board.specs.declared.rule.SeatView.{SeatView}
use Rattle.board.specs.Rule.{knows}
use Rattle.board.specs.declared.board.Board.{Board}
use Rattle.board.specs.declared.board.Seat.{Seat}

abbrev pub known : Seat → SeatView
known seat = seat.place.me.0

-- the seat belongs to the board, has a share of the right to draw, and counts its draws
pub record IsSeatOf (board : Board) (seat : Seat) : Type 0 where
  pub table : seat.place.table_id ≡ board.table.shared.table_id
  pub words : board.table.shared.table_id.words ≡ 2
  pub no_slots : board.table.shared.table_id.slots ≡ 0
  pub empty : seat.place.me.1 ≡ []
  pub share : 0 < (known seat).shares
  pub counted : length (known seat).drawn ≡ seat.draws
  pub few : seat.draws ≤ 2 ^ 32

-- a seat of the table that has done nothing, with at least this number of shares
pub record IsDealer (board : Board) (dealer : TableSeat (Unit {0}) SeatView) (shares : ℕ) : Type 0 where
  pub table : dealer.table_id ≡ board.table.shared.table_id
  pub words : board.table.shared.table_id.words ≡ 2
  pub no_slots : board.table.shared.table_id.slots ≡ 0
  pub empty : dealer.me.1 ≡ []
  pub view : dealer.me.0 ≡ knows dealer.me.0.shares [] [] []
  pub enough : shares ≤ dealer.me.0.shares

pub record IsNewSeatOf (board : Board) (seat : Seat) : Type 0 where
  pub seat_of : IsSeatOf board seat
  pub idle : known seat ≡ knows (known seat).shares [] [] []

-- `count` seats, which have raised, looked up and drawn nothing
pub record AreSeats (board : Board) (count : ℕ) (seats : List Seat) : Type 0 where
  pub each : All (IsNewSeatOf board) seats
  pub many : length seats ≡ count

-- the shares that these seats hold together
abbrev pub shares_of : List Seat → ℕ
shares_of seats = sum_by (λ s. (known s).shares) seats

-- These seats hold all shares of their board. Each seat has one at least (`IsBoard`), so the board has no other seat.
abbrev pub HoldAllShares : List Seat → Type 0
HoldAllShares seats = shares_of seats ≡ 65536
