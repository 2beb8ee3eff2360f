-- Seats that come home to the one that closes their desk, and what the book then has of each.
use Rattle.std.specs.Prelude.{◌≡◌, ◌≢◌, ℕ, ◌+◌, ◌≤◌, true, List, [], ◌∷◌, ◌++◌, All, length, map}
use Rattle.std.specs.List.{AllByRecursion}
use Rattle.crossbeam_channel.specs.Claims.{view}
use Rattle.desk.specs.declared.rule.Heard.{Heard}
use Rattle.desk.specs.declared.desk.Desk.{Desk}
use Rattle.desk.specs.declared.desk.Seat.{Seat}
use Rattle.desk.specs.Histories.{History, GoesOn, calls_of, first_seat}
use Rattle.desk.specs.Rule.{heard_of, IsHeard, HasHeardAll}
use Rattle.desk.specs.Seats.{IsSeatOf, number_in, calls_in, last_in, opening_in, heard_in, is_last_in}
use Rattle.scenario.specs.declared.events.Event.{Event}
use Rattle.running.specs.declared.shared.SideState.{SideState}
use Rattle.running.specs.declared.shared.SharedState.{SharedState}
use Rattle.running.specs.declared.channel_thread.ChannelThread.{ChannelThread}
use Rattle.running.specs.declared.channel_thread.PlayedChannel.{PlayedChannel}
use Rattle.running.specs.declared.chain_thread.ChainThread.{ChainThread}
use Rattle.running.specs.declared.side_threads.Served.{Served}
use Rattle.running.specs.declared.returned.PlayedEvents.{PlayedEvents}
use Rattle.running.specs.declared.returned.Returned.{Returned}
use Rattle.running.specs.declared.all_threads.AllThreads.{AllThreads}
use Rattle.running.specs.Threads.{IsLone, HasServed, seat_in}
use Rattle.running.specs.Playing.{ArePlayed}
use Rattle.running.specs.Outcomes.{PlaysChain}

-- ---- the seats of a side

-- the seats that channels' threads give back, at A's desk
abbrev pub channel_seats_a : List PlayedChannel → List Seat
channel_seats_a channels = map (λ p. p.a) channels

-- and at B's
abbrev pub channel_seats_b : List PlayedChannel → List Seat
channel_seats_b channels = map (λ p. p.b) channels

-- the seats at A's desk that all threads give back
abbrev pub seats_a : Returned → List Seat
seats_a r = channel_seats_a r.played.channels.items ++ (map seat_in r.side_threads_a.items ++ r.played.chain_thread.a ∷ [])

-- and at B's
abbrev pub seats_b : Returned → List Seat
seats_b r = channel_seats_b r.played.channels.items ++ (map seat_in r.side_threads_b.items ++ r.played.chain_thread.b ∷ [])

-- ---- how they come home

-- what a seat heard once these came home to it, one after the other
abbrev pub heard_with : List Seat → List Heard → List Heard
heard_with [] heard = heard
heard_with (s ∷ seats) heard = heard_with seats (heard_of (view s.pass) ∷ heard_in s ++ heard)

-- these seats came home to it, in order, and in all else it is as before
pub record TakesEach (desk : Desk) (before : Seat) (others : List Seat) (after : Seat) : Type 0 where
  pub seat_of : IsSeatOf desk after
  pub number : number_in after ≡ number_in before
  pub opening : opening_in after ≡ opening_in before
  pub place : is_last_in after ≡ is_last_in before
  pub calls : calls_in after ≡ calls_in before
  pub heard : heard_in after ≡ heard_with others (heard_in before)

-- ---- what the book has of them

-- the book's entries of a seat are just its calls, the seat's number is none of the opening book's, and the book goes on from what the seat last saw
pub record IsHome (opening book : History) (seat : Seat) : Type 0 where
  pub calls : calls_of (number_in seat) book ≡ calls_in seat
  pub since : GoesOn (last_in seat) book
  pub later : first_seat opening ≤ number_in seat

-- none of these seats has a number
abbrev pub IsNoSeats : ℕ → List Seat → Type 0
IsNoSeats n seats = All (λ s. number_in s ≢ n) seats

-- what the seat that closes a desk knows of the book
pub record IsClosedBy (closing_seat : Seat) (book : History) : Type 0 where
  pub calls : calls_of (number_in closing_seat) book ≡ calls_in closing_seat
  pub heard : AllByRecursion (IsHeard (opening_in closing_seat) book) (heard_in closing_seat)
  pub whole : is_last_in closing_seat ≡ true → first_seat (opening_in closing_seat) + length (heard_in closing_seat) ≡ number_in closing_seat → HasHeardAll (number_in closing_seat) (heard_in closing_seat) (opening_in closing_seat) book

-- a book has the entries that it was opened with, and those of these seats, which are all home
pub record AreHome (opening book : History) (seats : List Seat) : Type 0 where
  pub home : All (IsHome opening book) seats
  pub others : (n : ℕ) → IsNoSeats n seats → calls_of n book ≡ calls_of n opening

-- ---- what all threads give back

-- a seat at the desk that has made no call, and to which no other came home
pub record IsIdleSeat (desk : Desk) (seat : Seat) : Type 0 where
  pub lone : IsLone desk seat
  pub calls : calls_in seat ≡ []

-- the seats of the thread that played the events of the chain, which made no call
pub record IsHandedBack (shared : SharedState) (p : ChainThread) : Type 0 where
  pub a : IsIdleSeat shared.a.desk p.a
  pub b : IsIdleSeat shared.b.desk p.b

-- the two seats of a channel's thread
pub record IsLonePair (shared : SharedState) (p : PlayedChannel) : Type 0 where
  pub a : IsLone shared.a.desk p.a
  pub b : IsLone shared.b.desk p.b

-- what the threads that play events give back: the channels' threads, which were these, and the thread of the chain, which was this one
pub record HavePlayed (shared : SharedState) (events : List Event) (channel_threads : List ChannelThread) (first : ChainThread) (p : PlayedEvents) : Type 0 where
  pub each : ArePlayed events channel_threads p.channels.items
  pub seats : All (IsLonePair shared) p.channels.items
  pub chain_thread : IsHandedBack shared p.chain_thread
  pub chain : PlaysChain events (last_in first.a) (last_in first.b) p.outcomes.items (last_in p.chain_thread.a) (last_in p.chain_thread.b)

-- what a side's workers and its watcher give back, which are as many
pub record HaveServed (side : SideState) (count : ℕ) (side_threads : List Served) : Type 0 where
  pub each : All (HasServed side) side_threads
  pub many : length side_threads ≡ count

-- what all of these threads give back
pub record HasReturned (shared : SharedState) (events : List Event) (c : AllThreads) (r : Returned) : Type 0 where
  pub played : HavePlayed shared events c.channel_threads.items c.chain_thread r.played
  pub side_threads_a : HaveServed shared.a (length c.side_threads_a.items) r.side_threads_a.items
  pub side_threads_b : HaveServed shared.b (length c.side_threads_b.items) r.side_threads_b.items
