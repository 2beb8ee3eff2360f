-- A channel's thread steps, signs, revokes and closes, and makes no other call.
use Rattle.std.proofs.Common.{◌≡◌, ℕ, Bool, true, false, List, [], All, Option, Some, None, sym, subst}
use Rattle.std.specs.Prelude.{slice_get}
use Rattle.std.proofs.lemmas.List.Elements.{All-nil, All-cons, All-head, All-tail, All-push}
use Rattle.channel.specs.declared.messages.Message.{Message}
use Rattle.channel.specs.declared.messages.Message.TheVariants.{Step as StepMessage, RevokeAndAck}
use Rattle.channel.specs.Tokens.{peer_tokens}
use Rattle.terms.specs.declared.sides.Side.{Side}
use Rattle.terms.specs.declared.sides.Side.TheVariants as sides
use Rattle.scenario.specs.declared.events.Event.{Event}
use Rattle.scenario.specs.declared.events.Event.TheVariants as events
use Rattle.book.specs.declared.calls.Entry.{Entry}
use Rattle.book.specs.declared.calls.Call.{Call}
use Rattle.book.specs.declared.calls.Call.TheVariants.{Step as Stepping, Sign as Signing, Close as Closing}
use Rattle.book.specs.declared.calls.Step.TheVariants.{Own}
use Rattle.book.specs.Replies.{Reply, is_accepted, reply_of, extended}
use Rattle.desk.specs.Histories.{History}
use Rattle.desk.specs.declared.desk.Seat.{Seat}
use Rattle.desk.specs.Seats.{number_in, calls_in}
use Rattle.book.specs.Acts.{call_of}
use Rattle.running.specs.declared.endpoints.Endpoint.{Endpoint}
use Rattle.running.specs.declared.channel_thread.ChannelThread.{ChannelThread}
use Rattle.running.specs.declared.channel_thread.PlayedChannel.{PlayedChannel}
use Rattle.running.specs.declared.channel_thread.Turn.{Turn}
use Rattle.running.specs.declared.counts.Counts.{Counts}
use Rattle.running.specs.Events.{turn_in}
use Rattle.running.specs.Acting.{IsOwnReply, IsIdle, IsMade, IsDelivered, IsActed, IsTurnOf, Plays}
use Rattle.running.specs.Playing.{PlaysAll, IsPlayed, ArePlayed, IsFirstChannelThread}
use Rattle.running.specs.Reports.{IsTurns, AreTurns, MakesTurns}

more_turns : (b : Bool) (h : History) (n : ℕ) (call : Call) → IsTurns call → AreTurns h → AreTurns (extended b h n call)
more_turns true h n call is all = All-push (λ (e : Entry). IsTurns e.call) h (record { seat = n; call = call }) all is
more_turns false h n call is all = all

own_turns : (call : Call) (s t : Seat) (reply : Reply) → IsTurns call → IsOwnReply call s t reply → AreTurns (calls_in s) → AreTurns (calls_in t)
own_turns call s t reply turns is all = subst AreTurns (sym is.calls) (more_turns (is_accepted (reply_of peer_tokens is.history call)) (calls_in s) (number_in s) call turns all)

message_turns : (channel : ℕ) (message : Message) → IsTurns (call_of channel message)
message_turns channel (StepMessage step) = tt
message_turns channel (RevokeAndAck revocation) = tt

made_turns : (call : Call) (e f : Endpoint) (inbox newer : List Message) (done : Bool) → IsTurns call → IsMade call e f inbox newer done → AreTurns (calls_in e.seat) → AreTurns (calls_in f.seat)
made_turns call e f inbox newer done turns is all = own_turns call e.seat f.seat is.sent.reply turns is.sent.answered all

idle_turns : (e f : Endpoint) (inbox newer : List Message) (done : Bool) → IsIdle e f inbox newer done → AreTurns (calls_in e.seat) → AreTurns (calls_in f.seat)
idle_turns e f inbox newer done is all = subst (λ (x : Endpoint). AreTurns (calls_in x.seat)) (sym is.same) all

delivered_turns : (channel : ℕ) (m : Option Message) (e f : Endpoint) (inbox newer : List Message) (done : Bool) → IsDelivered channel m e f inbox newer done → AreTurns (calls_in e.seat) → AreTurns (calls_in f.seat)
delivered_turns channel None e f inbox newer done is all = idle_turns e f inbox newer done is all
delivered_turns channel (Some message) e f inbox newer done is all = own_turns (call_of channel message) e.seat f.seat is.reply (message_turns channel message) is.answered all

acted_turns : (channel : ℕ) (event : Event) (e f : Endpoint) (inbox newer : List Message) (done : Bool) → IsActed channel event e f inbox newer done → AreTurns (calls_in e.seat) → AreTurns (calls_in f.seat)
acted_turns channel (events.Own s c u) e f inbox newer done is all = made_turns (Stepping channel (Own u)) e f inbox newer done tt is all
acted_turns channel (events.Sign s c) e f inbox newer done is all = made_turns (Signing channel) e f inbox newer done tt is all
acted_turns channel (events.Deliver s c) e f inbox newer done is all = delivered_turns channel (slice_get e.inbox.items 0) e f inbox newer done is all
acted_turns channel (events.Close s c) e f inbox newer done is all = made_turns (Closing channel) e f inbox newer done tt is all
acted_turns channel (events.Keep s c n) e f inbox newer done is all = idle_turns e f inbox newer done is all
acted_turns channel (events.Broadcast s c n) e f inbox newer done is all = idle_turns e f inbox newer done is all
acted_turns channel (events.BroadcastHtlc s c n h) e f inbox newer done is all = idle_turns e f inbox newer done is all
acted_turns channel (events.Blocks n) e f inbox newer done is all = idle_turns e f inbox newer done is all
acted_turns channel (events.Look s) e f inbox newer done is all = idle_turns e f inbox newer done is all
acted_turns channel (events.Take s n) e f inbox newer done is all = idle_turns e f inbox newer done is all
acted_turns channel (events.Release s n) e f inbox newer done is all = idle_turns e f inbox newer done is all
acted_turns channel (events.Reorg d n) e f inbox newer done is all = idle_turns e f inbox newer done is all

abbrev ThreadTurns : ChannelThread → Type 0
ThreadTurns l = AreTurns (calls_in l.a.seat) × AreTurns (calls_in l.b.seat)

turn_turns : (side : Side) (event : Event) (l m : ChannelThread) (done : Bool) → IsTurnOf side event l m done → ThreadTurns l → ThreadTurns m
turn_turns sides.A event l m done is all = (acted_turns l.channel event l.a m.a l.b.inbox.items m.b.inbox.items done is.acted all.0, subst (λ (s : Seat). AreTurns (calls_in s)) (sym is.seat) all.1)
turn_turns sides.B event l m done is all = (subst (λ (s : Seat). AreTurns (calls_in s)) (sym is.seat) all.0, acted_turns l.channel event l.b m.b l.a.inbox.items m.a.inbox.items done is.acted all.1)

plays_turns : (t : Option Turn) (event : Event) (l m : ChannelThread) (k : Counts) → Plays t event l m k → ThreadTurns l → ThreadTurns m
plays_turns None event l m k is all = subst ThreadTurns (sym is.0) all
plays_turns (Some turn) event l m k (done, turned, is) all = turn_turns turn.side event l m done turned all

all_turns_made : (es : List Event) (l m : ChannelThread) (k : Counts) → PlaysAll es l m k → ThreadTurns l → ThreadTurns m
all_turns_made es l m k (PlaysAll.none_left channel_thread) all = all
all_turns_made es l m k (PlaysAll.played e rest first between last counts more same one others) all =
    all_turns_made rest between last more others (plays_turns (turn_in first.channel e) e first between counts one all)

none_made : (s : Seat) → calls_in s ≡ [] → AreTurns (calls_in s)
none_made s none = subst AreTurns (sym none) (All-nil (λ (e : Entry). IsTurns e.call))

thread_makes : (a b : History) (events : List Event) (l : ChannelThread) (p : PlayedChannel) → IsFirstChannelThread a b l → IsPlayed events l p → MakesTurns p
thread_makes a b events l p first is =
    let all = all_turns_made events l is.after p.counts is.all (none_made l.a.seat first.a_first.calls, none_made l.b.seat first.b_first.calls) in
    (subst (λ (s : Seat). AreTurns (calls_in s)) (sym is.a) all.0, subst (λ (s : Seat). AreTurns (calls_in s)) (sym is.b) all.1)

pub each_makes : (a b : History) (events : List Event) (channel_threads : List ChannelThread) (played : List PlayedChannel) → All (IsFirstChannelThread a b) channel_threads → ArePlayed events channel_threads played → All MakesTurns played
each_makes a b events channel_threads played first ArePlayed.no_more = All-nil MakesTurns
each_makes a b events channel_threads played first (ArePlayed.one_more l ls p ps is others) =
    All-cons MakesTurns p ps (thread_makes a b events l p (All-head (IsFirstChannelThread a b) l ls first) is) (each_makes a b events ls ps (All-tail (IsFirstChannelThread a b) l ls first) others)
