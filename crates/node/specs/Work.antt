-- What a worker does with the jobs that it takes.
use Rattle.std.specs.Prelude.{◌≡◌, ℕ, ◌^◌, List, [], ◌∷◌, ◌++◌, length, Option, Some, None}
use Rattle.std.specs.List.{flat_map}
use Rattle.keys.specs.declared.compressed.Key.{Key}
use Rattle.board.specs.declared.rule.SeatView.{SeatView}
use Rattle.board.specs.Rule.{knows}
use Rattle.board.specs.Seats.{known}
use Rattle.desk.specs.Seats.{number_in, calls_in, heard_in}
use Rattle.jobs.specs.Rule.{hand}
use Rattle.jobs.specs.Ends.{hand_of}
use Rattle.jobs.specs.Steps.{WasEmpty}
use Rattle.node.specs.declared.work.Job.{Job}
use Rattle.node.specs.declared.hands.Hands.{Hands}
use Rattle.node.specs.declared.workers.Done.{Done}
use Rattle.node.specs.declared.workers.Turn.{Turn}
use Rattle.node.specs.declared.workers.Turn.TheVariants.{Finished, Stopped, Spent}
use Rattle.node.specs.Tasks.{tasks_of}
use Rattle.node.specs.Entering.{Adds}

-- a seat at the board has drawn these tickets, and done nothing else
abbrev pub with_tickets : List ℕ → SeatView → SeatView
with_tickets tickets v = knows v.shares (v.drawn ++ tickets) v.raised v.looked

-- ---- one job

-- the seat at the desk keeps its number, and what it heard, and the queue is left alone
pub record IsSame (before after : Hands) : Type 0 where
  pub number : number_in after.seat ≡ number_in before.seat
  pub heard : heard_in after.seat ≡ heard_in before.seat
  pub pass : after.pass ≡ before.pass

-- a ticket was drawn, and calls were made for the job alone
pub record IsFinished (payments : List Key) (job : Job) (before after : Hands) : Type 0 where
  pub same : IsSame before after
  pub ticket : ℕ
  pub drawn : known after.place ≡ with_tickets (ticket ∷ []) (known before.place)
  pub calls : Adds (number_in before.seat) (tasks_of payments job) (calls_in before.seat) (calls_in after.seat)

-- the ticket was drawn, and no call was made
pub record IsStopped (ticket : ℕ) (before after : Hands) : Type 0 where
  pub same : IsSame before after
  pub drawn : known after.place ≡ with_tickets (ticket ∷ []) (known before.place)
  pub calls : calls_in after.seat ≡ calls_in before.seat

-- the seat has drawn 2^32 tickets, none was drawn, and no call was made
pub record IsSpent (before after : Hands) : Type 0 where
  pub same : IsSame before after
  pub drawn : known after.place ≡ known before.place
  pub many : length (known before.place).drawn ≡ 2 ^ 32
  pub calls : calls_in after.seat ≡ calls_in before.seat

abbrev pub IsTurn : List Key → Job → Hands → Hands → Turn → Type 0
IsTurn payments job before after Finished = IsFinished payments job before after
IsTurn payments job before after (Stopped ticket) = IsStopped ticket before after
IsTurn payments job before after Spent = IsSpent before after

-- what is true of the ticket at which a worker is stopped
abbrev pub IfStopped : (ℕ → Type 0) → Turn → Type 0
IfStopped P (Stopped ticket) = P ticket
IfStopped P turn = Unit {0}

-- ---- all jobs

-- why a worker ends, with the jobs that it dropped and the tickets that it drew: at an empty queue, where it dropped none; stopped at its last ticket, where it dropped the job of that
-- ticket; or since its seat has drawn 2^32 tickets, where it dropped the job for which it got none
pub data Ends (finished : List Job) (after : Hands) : List Job → List ℕ → Option ℕ → Type 0 where
  ran_dry : (tickets : List ℕ) → length tickets ≡ length finished → WasEmpty (hand_of after.pass) → Ends finished after [] tickets None
  was_stopped : (job : Job) (tickets : List ℕ) (ticket : ℕ) → length tickets ≡ length finished → Ends finished after (job ∷ []) (tickets ++ ticket ∷ []) (Some ticket)
  was_spent : (job : Job) (tickets : List ℕ) → length tickets ≡ length finished → length (known after.place).drawn ≡ 2 ^ 32 → Ends finished after (job ∷ []) tickets None

-- what a worker did, from what its hands knew before and know after
pub record IsWork (payments : List Key) (before after : Hands) (done : Done) : Type 0 where
  pub finished : List Job
  pub dropped : List Job
  pub tickets : List ℕ
  pub ends : Ends finished after dropped tickets done.stopped
  pub jobs : done.jobs ≡ length (finished ++ dropped)
  -- the pass took these jobs, in order, and put none
  pub taken : hand_of after.pass ≡ hand (hand_of before.pass).halvings (hand_of before.pass).put ((hand_of before.pass).taken ++ (finished ++ dropped))
  -- the seat at the board drew these tickets, in order, and did nothing else
  pub drawn : known after.place ≡ with_tickets tickets (known before.place)
  -- the seat at the desk keeps its number, and what it heard, and its new calls are for the finished jobs alone, in order
  pub number : number_in after.seat ≡ number_in before.seat
  pub heard : heard_in after.seat ≡ heard_in before.seat
  pub calls : Adds (number_in before.seat) (flat_map (tasks_of payments) finished) (calls_in before.seat) (calls_in after.seat)
