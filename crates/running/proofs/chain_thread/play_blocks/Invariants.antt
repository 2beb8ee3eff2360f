use Rattle.board.specs.Seats.{IsSeatOf}
use Rattle.running.proofs.chain_thread.play_blocks.Given as goal

abbrev pub invariant-loop-block : goal.invariant-loop-block
invariant-loop-block g l = IsSeatOf l.shared.board l.board_seat
