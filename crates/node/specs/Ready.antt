-- What a worker holds fits together.
use Rattle.desk.specs.Seats.{IsSeatOf}
use Rattle.board.specs.Seats as board_seats
use Rattle.jobs.specs.declared.queue.JobTaker.{JobTaker}
use Rattle.jobs.specs.Ends.{TakesWith}
use Rattle.node.specs.declared.work.Job.{Job}
use Rattle.node.specs.declared.hands.Shared.{Shared}
use Rattle.node.specs.declared.hands.Hands.{Hands}

-- its seats are at the desk and the board that it shares, and its pass is one to the taker's queue
pub record IsReady (shared : Shared) (taker : JobTaker Job) (hands : Hands) : Type 0 where
  pub seat : IsSeatOf shared.desk.now hands.seat
  pub place : board_seats.IsSeatOf shared.board.now hands.place
  pub pass : TakesWith taker hands.pass
