-- Which events a channel's thread plays.
use Rattle.std.specs.Prelude.{ℕ, ◌+◌, ◌==◌, if◌then◌else◌, List, [], ◌∷◌, map, Option, Some, None}
use Rattle.std.specs.List.{range_with_len}
use Rattle.scenario.specs.declared.events.Event.{Event}
use Rattle.scenario.specs.declared.events.Event.TheVariants as events
use Rattle.running.specs.declared.channel_thread.Turn.{Turn}

-- Whose turn an event is in a channel: updates, signatures, deliveries and closes. A close is an event of the chain too, on which the side's newest commitment is broadcast.
abbrev pub turn_of : Event → Option Turn
turn_of (events.Own s c update) = Some (record { side = s; channel = c })
turn_of (events.Sign s c) = Some (record { side = s; channel = c })
turn_of (events.Deliver s c) = Some (record { side = s; channel = c })
turn_of (events.Close s c) = Some (record { side = s; channel = c })
turn_of event = None

abbrev pub if_in : ℕ → Option Turn → Option Turn
if_in channel None = None
if_in channel (Some turn) = if turn.channel == channel then Some turn else None

-- whose turn an event is, if it is one of this channel
abbrev pub turn_in : ℕ → Event → Option Turn
turn_in channel event = if_in channel (turn_of event)

abbrev pub count_of : Option Turn → ℕ
count_of None = 0
count_of (Some turn) = 1

-- whether an event is one of the thread's, as a number
abbrev pub turns_at : ℕ → Event → ℕ
turns_at channel event = count_of (turn_in channel event)

-- how many events are the thread's
abbrev pub turns_in : ℕ → List Event → ℕ
turns_in channel [] = 0
turns_in channel (e ∷ es) = turns_at channel e + turns_in channel es

-- the same for each channel below a number
abbrev pub all_turns : ℕ → List Event → List ℕ
all_turns channels events = map (λ c. turns_in c events) (range_with_len 0 channels)
