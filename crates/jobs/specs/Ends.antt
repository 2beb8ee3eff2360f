-- Which pass belongs to which end.
use Rattle.std.specs.Prelude.{◌≡◌}
use Rattle.crossbeam_channel.specs.Claims.{Pass as ChannelPass, view, IsSeatAt}
use Rattle.crossbeam_channel.specs.Ends.{sends_on, receives_on, ruled_capacity}
use Rattle.jobs.specs.declared.rule.Hand.{Hand}
use Rattle.jobs.specs.declared.queue.JobSender.{JobSender}
use Rattle.jobs.specs.declared.queue.JobTaker.{JobTaker}

-- a pass to a queue of jobs of this type
abbrev pub JobPass : Type 0 → Type 0
JobPass J = ChannelPass J (Hand J)

module _ {J : Type 0} where
  -- what the pass has put and taken
  abbrev pub hand_of : JobPass J → Hand J
  hand_of p = view p

  -- the pass belongs to the sender's queue, which holds at most 64 jobs
  abbrev pub PutsWith : JobSender J → JobPass J → Type 0
  PutsWith s p = IsSeatAt (sends_on s.sender) p × (ruled_capacity (sends_on s.sender) ≡ 64)

  -- the pass belongs to the taker's queue
  abbrev pub TakesWith : JobTaker J → JobPass J → Type 0
  TakesWith t p = IsSeatAt (receives_on t.taker) p

  -- both put into one queue
  abbrev pub PutIntoOne : JobSender J → JobSender J → Type 0
  PutIntoOne s r = sends_on s.sender ≡ sends_on r.sender

  -- both take from one queue
  abbrev pub TakeFromOne : JobTaker J → JobTaker J → Type 0
  TakeFromOne t u = receives_on t.taker ≡ receives_on u.taker

  -- both are ends of one queue
  abbrev pub IsOneQueue : JobSender J → JobTaker J → Type 0
  IsOneQueue s t = receives_on t.taker ≡ sends_on s.sender
