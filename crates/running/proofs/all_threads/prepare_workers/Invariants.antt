use Rattle.std.proofs.Common.{◌≡◌, ◌+◌, All, length}
use Rattle.board.specs.Seats as at_board
use Rattle.running.specs.Threads.{AreResources, IsSideThread}
use Rattle.running.proofs.all_threads.prepare_workers.Given as goal

abbrev pub invariant-loop-worker : goal.invariant-loop-worker
invariant-loop-worker l = record {
  side_threads : All (IsSideThread l.side l.board) l.side_threads.items;
  many : length l.side_threads.items ≡ l._worker;
  resources : AreResources l.side l.closing_seat l.resources;
  seats_left : length l.resources.seats.items + l._worker ≡ length l.initial.resources.seats.items;
  board_seats : All (at_board.IsSeatOf l.board) l.board_seats.items;
  board_seats_left : length l.board_seats.items + l._worker ≡ length l.initial.board_seats.items;
}
