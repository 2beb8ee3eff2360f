-- How the events of all channels are played.
use Rattle.std.specs.Prelude.{◌≡◌, ℕ, ◌+◌, List, [], ◌∷◌, map, All}
use Rattle.std.specs.List.{range_with_len}
use Rattle.scenario.specs.declared.events.Event.{Event}
use Rattle.desk.specs.Histories.{History}
use Rattle.desk.specs.Seats.{calls_in, last_in, opening_in}
use Rattle.running.specs.declared.shared.ClosingSeats.{ClosingSeats}
use Rattle.running.specs.declared.endpoints.Endpoint.{Endpoint}
use Rattle.running.specs.declared.channel_thread.ChannelThread.{ChannelThread}
use Rattle.running.specs.declared.channel_thread.PlayedChannel.{PlayedChannel}
use Rattle.running.specs.declared.counts.Counts.{Counts}
use Rattle.running.specs.Events.{turn_in}
use Rattle.running.specs.Acting.{no_counts, Plays}

abbrev pub sum_of : Counts → Counts → Counts
sum_of k more = record { played = k.played + more.played; refused = k.refused + more.refused }

-- the events of a channel were played in order, each from what the one before it left, and their counts are added up
pub data PlaysAll : List Event → ChannelThread → ChannelThread → Counts → Type 0 where
  none_left : (channel_thread : ChannelThread) → PlaysAll [] channel_thread channel_thread no_counts
  played : (e : Event) (es : List Event) (before between after : ChannelThread) (counts more : Counts) → between.channel ≡ before.channel → Plays (turn_in before.channel e) e before between counts
      → PlaysAll es between after more → PlaysAll (e ∷ es) before after (sum_of counts more)

-- a channel's events were played by this thread, to these counts, and its two seats are given back
pub record IsPlayed (events : List Event) (channel_thread : ChannelThread) (p : PlayedChannel) : Type 0 where
  pub after : ChannelThread
  pub all : PlaysAll events channel_thread after p.counts
  pub a : p.a ≡ after.a.seat
  pub b : p.b ≡ after.b.seat

-- the same for each channel
pub data ArePlayed (events : List Event) : List ChannelThread → List PlayedChannel → Type 0 where
  no_more : ArePlayed events [] []
  one_more : (l : ChannelThread) (ls : List ChannelThread) (p : PlayedChannel) (ps : List PlayedChannel) → IsPlayed events l p → ArePlayed events ls ps → ArePlayed events (l ∷ ls) (p ∷ ps)

-- an endpoint's seat has made no call, has last seen this history, and no message is on its way to it
pub record IsFirstEndpoint (history : History) (e : Endpoint) : Type 0 where
  pub inbox : e.inbox.items ≡ []
  pub calls : calls_in e.seat ≡ []
  pub last : last_in e.seat ≡ history

-- the same of both endpoints of a channel, each with its side's history
pub record IsFirstChannelThread (a b : History) (l : ChannelThread) : Type 0 where
  pub a_first : IsFirstEndpoint a l.a
  pub b_first : IsFirstEndpoint b l.b

-- the same at the desks of two sides, each with the history with which its desk was made
abbrev pub IsFirstChannelThreadIn : ClosingSeats → ChannelThread → Type 0
IsFirstChannelThreadIn closing_seats = IsFirstChannelThread (opening_in closing_seats.a) (opening_in closing_seats.b)

-- the events of all channels below a number were played, each channel's from endpoints that have made no call, of sides whose books have these histories, and these seats were given back
pub record AreAllPlayed (a b : History) (channels : ℕ) (events : List Event) (played : List PlayedChannel) : Type 0 where
  pub channel_threads : List ChannelThread
  pub numbers : map (λ l. l.channel) channel_threads ≡ range_with_len 0 channels
  pub first : All (IsFirstChannelThread a b) channel_threads
  pub each : ArePlayed events channel_threads played
