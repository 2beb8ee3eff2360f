-- Each call that is counted as played is an entry.
use Rattle.std.proofs.Common.{◌≡◌, ℕ, ◌+◌, Bool, true, false, List, [], ◌∷◌, ◌++◌, length, All, Option, Some, None, refl, sym, ap, ◌∙◌, arith, length-append}
use Rattle.std.specs.Prelude.{slice_get}
use Rattle.std.proofs.lemmas.List.Elements.{All-nil, All-cons, All-head, All-tail}
use Rattle.channel.specs.declared.messages.Message.{Message}
use Rattle.channel.specs.Tokens.{peer_tokens}
use Rattle.terms.specs.declared.sides.Side.{Side}
use Rattle.terms.specs.declared.sides.Side.TheVariants as sides
use Rattle.scenario.specs.declared.events.Event.{Event}
use Rattle.scenario.specs.declared.events.Event.TheVariants as events
use Rattle.book.specs.declared.calls.Entry.{Entry}
use Rattle.book.specs.declared.calls.Call.{Call}
use Rattle.book.specs.declared.calls.Call.TheVariants.{Step as Stepping, Sign as Signing, Close as Closing}
use Rattle.book.specs.declared.calls.Step.TheVariants.{Own}
use Rattle.book.specs.Replies.{Reply, is_accepted, reply_of, extended}
use Rattle.desk.specs.Histories.{History}
use Rattle.desk.specs.declared.desk.Seat.{Seat}
use Rattle.desk.specs.Seats.{number_in, calls_in}
use Rattle.book.specs.Acts.{call_of}
use Rattle.running.specs.declared.endpoints.Endpoint.{Endpoint}
use Rattle.running.specs.declared.channel_thread.ChannelThread.{ChannelThread}
use Rattle.running.specs.declared.channel_thread.PlayedChannel.{PlayedChannel}
use Rattle.running.specs.declared.channel_thread.Turn.{Turn}
use Rattle.running.specs.declared.counts.Counts.{Counts}
use Rattle.running.specs.Events.{turn_in}
use Rattle.running.specs.Acting.{no_counts, IsOwnReply, IsReceived, IsIdle, IsMade, IsDelivered, IsActed, HasTurned, IsTurnOf, Plays}
use Rattle.running.specs.Playing.{sum_of, PlaysAll, IsPlayed, ArePlayed, IsFirstChannelThread}
use Rattle.running.specs.Reports.{IsCounted}

-- a Boolean as a number
abbrev bit : Bool → ℕ
bit true = 1
bit false = 0

extended_length : (b : Bool) (h : History) (n : ℕ) (call : Call) → length (extended b h n call) ≡ length h + bit b
extended_length true h n call =
    let e : length (h ++ record { seat = n; call = call } ∷ []) ≡ length h + 1 = omega (arith, length-append h (record { seat = n; call = call } ∷ [])) in
    e
extended_length false h n call = omega arith

abbrev calls_long : Seat → ℕ
calls_long s = length (calls_in s)

own_more : (call : Call) (s t : Seat) (reply : Reply) → IsOwnReply call s t reply → calls_long t ≡ calls_long s + bit (is_accepted reply)
own_more call s t reply is =
    ap (λ (l : List Entry). length l) is.calls ∙ extended_length (is_accepted (reply_of peer_tokens is.history call)) (calls_in s) (number_in s) call
    ∙ ap (λ (r : Reply). calls_long s + bit (is_accepted r)) (sym is.reply_is)

made_more : (call : Call) (e f : Endpoint) (inbox newer : List Message) (done : Bool) → IsMade call e f inbox newer done → calls_long f.seat ≡ calls_long e.seat + bit done
made_more call e f inbox newer done is = own_more call e.seat f.seat is.sent.reply is.sent.answered ∙ ap (λ (b : Bool). calls_long e.seat + bit b) (sym is.sent.done_is)

received_more : (channel : ℕ) (call : Call) (e f : Endpoint) (inbox newer : List Message) (done : Bool) → IsReceived channel call e f inbox newer done → calls_long f.seat ≡ calls_long e.seat + bit done
received_more channel call e f inbox newer done is = own_more call e.seat f.seat is.reply is.answered ∙ ap (λ (b : Bool). calls_long e.seat + bit b) (sym is.done_is)

idle_more : (e f : Endpoint) (inbox newer : List Message) (done : Bool) → IsIdle e f inbox newer done → calls_long f.seat ≡ calls_long e.seat + bit done
idle_more e f inbox newer done is =
    let same : calls_long f.seat ≡ calls_long e.seat = ap (λ (x : Endpoint). calls_long x.seat) is.same in
    let none : bit done ≡ 0 = ap bit is.done_is in
    omega (arith, same, none)

delivered_more : (channel : ℕ) (m : Option Message) (e f : Endpoint) (inbox newer : List Message) (done : Bool) → IsDelivered channel m e f inbox newer done → calls_long f.seat ≡ calls_long e.seat + bit done
delivered_more channel None e f inbox newer done is = idle_more e f inbox newer done is
delivered_more channel (Some message) e f inbox newer done is = received_more channel (call_of channel message) e f inbox newer done is

acted_more : (channel : ℕ) (event : Event) (e f : Endpoint) (inbox newer : List Message) (done : Bool) → IsActed channel event e f inbox newer done → calls_long f.seat ≡ calls_long e.seat + bit done
acted_more channel (events.Own s c u) e f inbox newer done is = made_more (Stepping channel (Own u)) e f inbox newer done is
acted_more channel (events.Sign s c) e f inbox newer done is = made_more (Signing channel) e f inbox newer done is
acted_more channel (events.Deliver s c) e f inbox newer done is = delivered_more channel (slice_get e.inbox.items 0) e f inbox newer done is
acted_more channel (events.Close s c) e f inbox newer done is = made_more (Closing channel) e f inbox newer done is
acted_more channel (events.Keep s c n) e f inbox newer done is = idle_more e f inbox newer done is
acted_more channel (events.Broadcast s c n) e f inbox newer done is = idle_more e f inbox newer done is
acted_more channel (events.BroadcastHtlc s c n h) e f inbox newer done is = idle_more e f inbox newer done is
acted_more channel (events.Blocks n) e f inbox newer done is = idle_more e f inbox newer done is
acted_more channel (events.Look s) e f inbox newer done is = idle_more e f inbox newer done is
acted_more channel (events.Take s n) e f inbox newer done is = idle_more e f inbox newer done is
acted_more channel (events.Release s n) e f inbox newer done is = idle_more e f inbox newer done is
acted_more channel (events.Reorg d n) e f inbox newer done is = idle_more e f inbox newer done is

abbrev entries_of : ChannelThread → ℕ
entries_of l = calls_long l.a.seat + calls_long l.b.seat

turned_more : (channel : ℕ) (event : Event) (me f peer g : Endpoint) (done : Bool) → HasTurned channel event me f peer g done → calls_long f.seat + calls_long g.seat ≡ calls_long me.seat + calls_long peer.seat + bit done
turned_more channel event me f peer g done is =
    let mine = acted_more channel event me f peer.inbox.items g.inbox.items done is.acted in
    let theirs : calls_long g.seat ≡ calls_long peer.seat = ap calls_long is.seat in
    omega (arith, mine, theirs)

turn_more : (side : Side) (event : Event) (l m : ChannelThread) (done : Bool) → IsTurnOf side event l m done → entries_of m ≡ entries_of l + bit done
turn_more sides.A event l m done is = turned_more l.channel event l.a m.a l.b m.b done is
turn_more sides.B event l m done is = let e = turned_more l.channel event l.b m.b l.a m.a done is in omega (arith, e)

plays_more : (t : Option Turn) (event : Event) (l m : ChannelThread) (k : Counts) → Plays t event l m k → entries_of m ≡ entries_of l + k.played
plays_more None event l m k is =
    let same : entries_of m ≡ entries_of l = ap entries_of is.0 in
    let none : k.played ≡ 0 = ap (λ (c : Counts). c.played) is.1 in
    omega (arith, same, none)
plays_more (Some turn) event l m k (true, turned, is) =
    let more = turn_more turn.side event l m true turned in
    let one : k.played ≡ 1 = ap (λ (c : Counts). c.played) is in
    omega (arith, more, one)
plays_more (Some turn) event l m k (false, turned, is) =
    let more = turn_more turn.side event l m false turned in
    let none : k.played ≡ 0 = ap (λ (c : Counts). c.played) is in
    omega (arith, more, none)

all_more : (es : List Event) (l m : ChannelThread) (k : Counts) → PlaysAll es l m k → entries_of m ≡ entries_of l + k.played
all_more es l m k (PlaysAll.none_left channel_thread) =
    let none_played : no_counts.played ≡ 0 = refl in
    omega (arith, none_played)
all_more es l m k (PlaysAll.played e rest first between last counts more same one others) =
    let here = plays_more (turn_in first.channel e) e first between counts one in
    let later = all_more rest between last more others in
    let sum : (sum_of counts more).played ≡ counts.played + more.played = refl in
    omega (arith, here, later, sum)

thread_counted : (a b : History) (events : List Event) (l : ChannelThread) (p : PlayedChannel) → IsFirstChannelThread a b l → IsPlayed events l p → IsCounted p
thread_counted a b events l p first is =
    let more = all_more events l is.after p.counts is.all in
    let none_a : calls_long l.a.seat ≡ 0 = ap (λ (c : List Entry). length c) first.a_first.calls in
    let none_b : calls_long l.b.seat ≡ 0 = ap (λ (c : List Entry). length c) first.b_first.calls in
    let mine_a : calls_long p.a ≡ calls_long is.after.a.seat = ap calls_long is.a in
    let mine_b : calls_long p.b ≡ calls_long is.after.b.seat = ap calls_long is.b in
    omega (arith, more, none_a, none_b, mine_a, mine_b)

pub entered : (a b : History) (events : List Event) (channel_threads : List ChannelThread) (played : List PlayedChannel) → All (IsFirstChannelThread a b) channel_threads → ArePlayed events channel_threads played → All IsCounted played
entered a b events channel_threads played first ArePlayed.no_more = All-nil IsCounted
entered a b events channel_threads played first (ArePlayed.one_more l ls p ps is others) =
    All-cons IsCounted p ps (thread_counted a b events l p (All-head (IsFirstChannelThread a b) l ls first) is) (entered a b events ls ps (All-tail (IsFirstChannelThread a b) l ls first) others)
