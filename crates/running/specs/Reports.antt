-- What a node leaves.
use Rattle.std.specs.Prelude.{◌≡◌, ℕ, ◌+◌, true, List, ◌++◌, All, length, map}
use Rattle.channel.specs.Tokens.{peer_tokens}
use Rattle.book.specs.Accepted.{all_accepted, AreWhole}
use Rattle.book.specs.Guarding.{is_guarded}
use Rattle.book.specs.Books.{replay}
use Rattle.book.specs.declared.calls.Call.{Call}
use Rattle.book.specs.declared.calls.Call.TheVariants.{Open, Keep, Release}
use Rattle.desk.specs.declared.desk.Seat.{Seat}
use Rattle.desk.specs.Histories.{History, GoesOn}
use Rattle.desk.specs.Seats.{calls_in, last_in, opening_in}
use Rattle.scenario.specs.declared.events.Event.{Event}
use Rattle.scenario.specs.declared.scenarios.Scenario.{Scenario}
use Rattle.world.specs.Worlds.{World}
use Rattle.world.specs.Beginning.{IsBeginning}
use Rattle.running.specs.declared.counts.Counts.{Counts}
use Rattle.running.specs.declared.shared.SideState.{SideState}
use Rattle.running.specs.declared.shared.SharedState.{SharedState}
use Rattle.running.specs.declared.shared.ClosingSeats.{ClosingSeats}
use Rattle.running.specs.declared.returned.Returned.{Returned}
use Rattle.running.specs.declared.channel_thread.PlayedChannel.{PlayedChannel}
use Rattle.running.specs.declared.runs.Report.{Report}
use Rattle.running.specs.Events.{all_turns}
use Rattle.running.specs.Threads.{payments_in, KeepsAndReleases}
use Rattle.running.specs.Playing.{AreAllPlayed}
use Rattle.running.specs.Outcomes.{PlaysChain, IsChainPlayed}
use Rattle.running.specs.Homes.{TakesEach, IsClosedBy, AreHome, IsLonePair, IsHandedBack, HaveServed, channel_seats_a, channel_seats_b}

-- a book that threads leave: it goes on from the one that was opened, each call in it was accepted, none is a signature that the penalties of a revoked commitment had to come before, and each
-- claim in it is an accepted one
pub record IsLeft (opening history : History) : Type 0 where
  pub goes_on : GoesOn opening history
  pub accepted : all_accepted peer_tokens history ≡ true
  pub guarded : is_guarded history ≡ true
  pub whole : AreWhole history

abbrev pub total_of : Counts → ℕ
total_of counts = counts.played + counts.refused

-- what all threads give back, a watcher and as many workers a side and a thread for each of as many channels, which played these events
pub record IsPlayedOut (shared : SharedState) (closing_seats : ClosingSeats) (channels workers : ℕ) (events : List Event) (r : Returned) : Type 0 where
  pub played : AreAllPlayed (opening_in closing_seats.a) (opening_in closing_seats.b) channels events r.played.channels.items
  pub played_channels : All (IsLonePair shared) r.played.channels.items
  pub chain_thread : IsHandedBack shared r.played.chain_thread
  pub chain : PlaysChain events (opening_in closing_seats.a) (opening_in closing_seats.b) r.played.outcomes.items (last_in r.played.chain_thread.a) (last_in r.played.chain_thread.b)
  pub side_threads_a : HaveServed shared.a (workers + 1) r.side_threads_a.items
  pub side_threads_b : HaveServed shared.b (workers + 1) r.side_threads_b.items

-- these seats came home to the one that closes a desk, with which the book was then left
pub record IsSettled (side : SideState) (closing_seat : Seat) (seats : List Seat) (book : History) : Type 0 where
  pub after : Seat
  pub takes : TakesEach side.desk closing_seat seats after
  pub left : IsLeft (opening_in after) book
  pub closed : IsClosedBy after book

-- Whose the later entries of a side's book are: those of its endpoints of channels, and those of its other threads, which only keep and release, each release to the payment key of its channel in the
-- opening book.
pub record IsOfThreads (opening book : History) (channel_seats : List Seat) : Type 0 where
  pub others : List Seat
  pub work : All (KeepsAndReleases (payments_in (replay opening))) others
  pub home : AreHome opening book (channel_seats ++ others)

-- the calls of a channel's thread that the two books accepted are as many as were counted as played
abbrev pub IsCounted : PlayedChannel → Type 0
IsCounted p = length (calls_in p.a) + length (calls_in p.b) ≡ p.counts.played

-- a call that steps, signs, revokes or closes
abbrev pub IsTurns : Call → Type 0
IsTurns (Open opening) = ⊥
IsTurns (Keep channel number claims) = ⊥
IsTurns (Release channel batch) = ⊥
IsTurns call = Unit {0}

abbrev pub AreTurns : History → Type 0
AreTurns entries = All (λ e. IsTurns e.call) entries

-- a channel's thread made no other calls
abbrev pub MakesTurns : PlayedChannel → Type 0
MakesTurns p = AreTurns (calls_in p.a) × AreTurns (calls_in p.b)

-- What threads leave of two books with these histories: both go on from them. Each channel's updates, signatures, deliveries and closes were played in order, each with the book's own reply at a
-- beginning of the book that is left, and each accepted one is an entry there. All other later entries are keeps and releases. Of each event it is told why it was refused as one of the chain, if it
-- was: a broadcast and a close by the side's book at such a beginning.
pub record IsRun (a b : History) (channels : ℕ) (events : List Event) (r : Report) : Type 0 where
  pub a_left : IsLeft a r.a
  pub b_left : IsLeft b r.b
  pub played_channels : List PlayedChannel
  pub played : AreAllPlayed a b channels events played_channels
  pub counts : map (λ p. p.counts) played_channels ≡ r.channels.items
  pub entered : All IsCounted played_channels
  pub turns : All MakesTurns played_channels
  pub chain : IsChainPlayed a b events r.outcomes.items r.a r.b
  pub a_threads : IsOfThreads a r.a (channel_seats_a played_channels)
  pub b_threads : IsOfThreads b r.b (channel_seats_b played_channels)

-- the run of a scenario's events over the two books with which its world begins; each turn is counted once
pub record IsReport (scenario : Scenario) (report : Report) : Type 0 where
  pub world : World
  pub begins : IsBeginning scenario.seeds scenario.channels world
  pub run : IsRun world.a.history world.b.history (length scenario.channels) scenario.events report
  pub counted : map total_of report.channels.items ≡ all_turns (length scenario.channels) scenario.events
