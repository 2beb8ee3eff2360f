-- What each thread has of its own fits what it shares.
use Rattle.std.specs.Prelude.{◌≡◌, ℕ, ◌+◌, true, List, [], ◌∷◌, Some, All, map, slice_get}
use Rattle.keys.specs.declared.bases.Base.TheVariants.{Payment}
use Rattle.keys.specs.Derivation.{base_key}
use Rattle.keys.specs.declared.compressed.Key.{Key}
use Rattle.book.specs.declared.calls.Call.{Call}
use Rattle.book.specs.declared.calls.Call.TheVariants.{Keep, Release}
use Rattle.book.specs.Calls.{IsBatchOf}
use Rattle.book.specs.Books.{Channels, replay, fundings_of}
use Rattle.board.specs.declared.board.Board.{Board}
use Rattle.board.specs.Seats as at_board
use Rattle.desk.specs.declared.desk.Seat.{Seat}
use Rattle.desk.specs.declared.desk.Desk.{Desk}
use Rattle.desk.specs.Histories.{GoesOn, first_seat}
use Rattle.desk.specs.Seats.{IsSeatOf, IsNewSeatOf, HasSameCalls, number_in, calls_in, last_in, opening_in, heard_in, is_last_in}
use Rattle.side.specs.declared.due.DueClaim.{DueClaim}
use Rattle.side.specs.Batches.{claims_in, preimages_for, output_for}
use Rattle.jobs.specs.Ends.{PutsWith, TakesWith, IsOneQueue}
use Rattle.running.specs.declared.shared.SideState.{SideState}
use Rattle.running.specs.declared.shared.SharedState.{SharedState}
use Rattle.running.specs.declared.endpoints.Endpoint.{Endpoint}
use Rattle.running.specs.declared.channel_thread.ChannelThread.{ChannelThread}
use Rattle.running.specs.declared.working.Worker.{Worker}
use Rattle.running.specs.declared.watching.Watcher.{Watcher}
use Rattle.running.specs.declared.chain_thread.ChainThread.{ChainThread}
use Rattle.running.specs.declared.side_threads.SideThread.{SideThread}
use Rattle.running.specs.declared.side_threads.SideThread.TheVariants as threads
use Rattle.running.specs.declared.side_threads.Served.{Served}
use Rattle.running.specs.declared.side_threads.Served.TheVariants as served
use Rattle.running.specs.declared.all_threads.SideResources.{SideResources}
use Rattle.running.specs.declared.all_threads.AllThreads.{AllThreads}

-- the bytes of a side's payment key in each channel
abbrev pub payments_in : Channels → List (List ℕ)
payments_in chs = map (λ ch. base_key ch.state.seed Payment) chs

-- the bytes of payment keys
abbrev pub payment_bytes : List Key → List (List ℕ)
payment_bytes payments = map (λ k. k.bytes) payments

-- the payment keys that a side's threads share are those of the book with which the seat's desk was made
abbrev pub PaysItself : SideState → Seat → Type 0
PaysItself side seat = payment_bytes side.payments.items ≡ payments_in (replay (opening_in seat))

-- a seat at the side's desk that has made no call, as the one that closes the desk
abbrev pub IsOwnSeat : SideState → (closing_seat seat : Seat) → Type 0
IsOwnSeat side closing_seat seat = IsNewSeatOf side.desk (opening_in closing_seat) seat

-- a worker's seats are at its side's desk and at the board, and its pass is one to its queue. It pays to the keys of that desk's book
pub record IsWorker (side : SideState) (board : Board) (w : Worker) : Type 0 where
  pub seat : IsSeatOf side.desk w.hands.seat
  pub payments : PaysItself side w.hands.seat
  pub board_seat : at_board.IsSeatOf board w.hands.place
  pub pass : TakesWith w.taker w.hands.pass

pub record IsWatcher (side : SideState) (board : Board) (w : Watcher) : Type 0 where
  pub seat : IsSeatOf side.desk w.seat
  pub board_seat : at_board.IsSeatOf board w.board_seat
  pub pass : PutsWith w.sender w.pass

-- a seat that has made no call, and to which no other came home
pub record IsUnused (seat : Seat) : Type 0 where
  pub calls : calls_in seat ≡ []
  pub heard : heard_in seat ≡ []

-- a worker or a watcher that has done nothing yet
abbrev pub IsSideThread : SideState → Board → SideThread → Type 0
IsSideThread side board (threads.Works w) = IsWorker side board w × IsUnused w.hands.seat
IsSideThread side board (threads.Watches w) = IsWatcher side board w × IsUnused w.seat

-- a seat at the desk, to which no other came home
pub record IsLone (desk : Desk) (seat : Seat) : Type 0 where
  pub seat_of : IsSeatOf desk seat
  pub heard : heard_in seat ≡ []

-- Where these are the payment keys of all channels: a keep, or the release of one claim by itself, with the preimages that it wants, in a batch whose one output pays its whole value to the hash of its channel's key. A claim with
-- a fixed transaction is spent by that one, whose outputs this does not speak of; nor does it say that the claim fell due
abbrev pub IsKeepOrRelease : List (List ℕ) → Call → Type 0
IsKeepOrRelease keys (Keep channel number claims) = Unit {0}
IsKeepOrRelease keys (Release channel batch) = (due : DueClaim) × (key : List ℕ) × (due.channel ≡ channel) × (slice_get keys channel ≡ Some key)
    × IsBatchOf (claims_in (due ∷ [])) (output_for key (due ∷ []) ∷ []) (preimages_for (due ∷ [])) batch
IsKeepOrRelease keys call = ⊥

-- a seat made no other calls
abbrev pub KeepsAndReleases : List (List ℕ) → Seat → Type 0
KeepsAndReleases keys seat = All (λ e. IsKeepOrRelease keys e.call) (calls_in seat)

-- the seat that a worker or a watcher gives back
abbrev pub seat_in : Served → Seat
seat_in (served.Worked done hands) = hands.seat
seat_in (served.Watched seat) = seat

-- it gives its seat back, which only kept, and released to the payment keys that the side's threads share
pub record HasServed (side : SideState) (s : Served) : Type 0 where
  pub seat : IsLone side.desk (seat_in s)
  pub work : KeepsAndReleases (payment_bytes side.payments.items) (seat_in s)

-- a watcher makes no call
pub record GoesOnWatching (side : SideState) (board : Board) (before after : Watcher) : Type 0 where
  pub seat : HasSameCalls side.desk before.seat after.seat
  pub board_seat : at_board.IsSeatOf board after.board_seat
  pub pass : PutsWith after.sender after.pass

pub record IsEndpoint (side : SideState) (e : Endpoint) : Type 0 where
  pub seat : IsSeatOf side.desk e.seat
  pub heard : heard_in e.seat ≡ []
  pub pass : PutsWith e.sender e.pass

pub record IsChannelThread (shared : SharedState) (l : ChannelThread) : Type 0 where
  pub a : IsEndpoint shared.a l.a
  pub b : IsEndpoint shared.b l.b

pub record IsChainThread (shared : SharedState) (p : ChainThread) : Type 0 where
  pub a : IsSeatOf shared.a.desk p.a
  pub b : IsSeatOf shared.b.desk p.b
  pub board_seat : at_board.IsSeatOf shared.board p.board_seat

-- the thread that plays the events of the chain makes no call, and what it sees of the two books goes on
pub record GoesOnPlaying (shared : SharedState) (before after : ChainThread) : Type 0 where
  pub a : HasSameCalls shared.a.desk before.a after.a
  pub b : HasSameCalls shared.b.desk before.b after.b
  pub since_a : GoesOn (last_in before.a) (last_in after.a)
  pub since_b : GoesOn (last_in before.b) (last_in after.b)
  pub board_seat : at_board.IsSeatOf shared.board after.board_seat

-- the funding outputs that a side's watcher follows are those of the book with which the seat's desk was made
abbrev pub FollowsItself : SideState → Seat → Type 0
FollowsItself side seat = side.fundings.items ≡ fundings_of (replay (opening_in seat))

-- from what a side's threads are equipped: seats at its desk, its payment keys and funding outputs, and its queue of jobs
pub record AreResources (side : SideState) (closing_seat : Seat) (s : SideResources) : Type 0 where
  pub seats : All (IsOwnSeat side closing_seat) s.seats.items
  pub payments : PaysItself side closing_seat
  pub fundings : FollowsItself side closing_seat
  pub queue : IsOneQueue s.sender s.taker
  pub pass : PutsWith s.sender s.pass

-- the seat that closes a side's desk, its last, with as many others as this number
pub record ClosesAfter (side : SideState) (seats : ℕ) (closing_seat : Seat) : Type 0 where
  pub new : IsNewSeatOf side.desk (opening_in closing_seat) closing_seat
  pub last : is_last_in closing_seat ≡ true
  pub top : number_in closing_seat ≡ first_seat (opening_in closing_seat) + seats

-- the thread that plays the events of the chain has made no call
pub record IsNewChainThread (shared : SharedState) (p : ChainThread) : Type 0 where
  pub chain_thread : IsChainThread shared p
  pub a : IsUnused p.a
  pub b : IsUnused p.b

-- all threads
pub record AreAllThreads (shared : SharedState) (c : AllThreads) : Type 0 where
  pub side_threads_a : All (IsSideThread shared.a shared.board) c.side_threads_a.items
  pub side_threads_b : All (IsSideThread shared.b shared.board) c.side_threads_b.items
  pub channel_threads : All (IsChannelThread shared) c.channel_threads.items
  pub chain_thread : IsNewChainThread shared c.chain_thread
