use Rattle.board.specs.Seats.{IsSeatOf}
use Rattle.thread_tests.proofs.boards.draw_many.Given as goal

abbrev pub invariant-loop : goal.invariant-loop
invariant-loop l = IsSeatOf l.board l.seat
