-- What a channel's thread does: a turn of one of its sides, the message that it takes, the job that it puts, and all of its events.
use Rattle.std.proofs.Common.{◌≡◌, ◌+◌, Bool, true, false, List, [], ◌∷◌, ◌++◌, drop, length, Some, None, Ok, sym, ap, ◌∙◌, refl, subst, arith}
use Rattle.std.specs.Prelude.{slice_get}
use Rattle.std.proofs.lemmas.Bool.{true≢false}
use Rattle.terms.specs.declared.sides.Side.TheVariants.{A, B}
use Rattle.channel.specs.declared.messages.Message.{Message}
use Rattle.scenario.specs.declared.events.Event.{Event}
use Rattle.scenario.specs.declared.events.Event.TheVariants as events
use Rattle.book.specs.declared.calls.Call.{Call}
use Rattle.book.specs.declared.calls.Call.TheVariants.{Sign as Signing, Close as Closing}
use Rattle.book.specs.declared.calls.Entry.{Entry}
use Rattle.book.specs.Replies.{revoked}
use Rattle.book.specs.Acts.{call_of}
use Rattle.jobs.specs.Ends.{hand_of}
use Rattle.desk.specs.declared.desk.Seat.{Seat}
use Rattle.desk.specs.Histories.{History}
use Rattle.desk.specs.Seats.{calls_in, last_in}
use Rattle.node.specs.declared.work.Job.TheVariants.{Keep}
use Rattle.running.specs.declared.counts.Counts.{Counts}
use Rattle.running.specs.Events.{turn_in}
use Rattle.running.specs.Acting.{IsPutOrDropped, IsOwnReply, IsSent, IsReceived, IsIdle, IsMade, IsDelivered, IsActed, HasTurned, IsTurnOf, no_counts, Plays}
use Rattle.running.specs.Playing.{PlaysAll, none_left, IsPlayed, ArePlayed, no_more, one_more, IsFirstEndpoint, IsFirstChannelThread}
use Rattle.running.specs.Reports.{IsCounted}
use Rattle.law_examples.proofs.Samples.{argument_of}

-- an endpoint of a channel, and a channel's thread with both; and what its thread gives back
abbrev pub Endpoint : Type 0
Endpoint = argument_of (IsFirstEndpoint [])

abbrev pub ChannelThread : Type 0
ChannelThread = argument_of (IsFirstChannelThread [] [])

abbrev pub PlayedChannel : Type 0
PlayedChannel = argument_of IsCounted

-- ---- endpoints that have made no call

module _ (e : Endpoint) (h : History) where
  -- yes: IsFirstEndpoint
  first_endpoint : e.inbox.items ≡ [] → calls_in e.seat ≡ [] → last_in e.seat ≡ h → IsFirstEndpoint h e
  first_endpoint i c l = record { inbox = i; calls = c; last = l }

  -- no: IsFirstEndpoint
  second_call : (x : Entry) → calls_in e.seat ≡ x ∷ [] → IsFirstEndpoint h e → ⊥
  second_call x c f = let l = ap length (sym c ∙ f.calls) in omega (arith, l)

  -- no: IsFirstEndpoint
  message_waits : (m : Message) → e.inbox.items ≡ m ∷ [] → IsFirstEndpoint h e → ⊥
  message_waits m c f = let l = ap length (sym c ∙ f.inbox) in omega (arith, l)

-- ---- calls, and messages that are taken

module _ (x y : Endpoint) (inbox newer : List Message) where
  -- the oldest message is taken, and leaves the inbox; the peer's commitment 5 in channel 1 is revoked, so its penalties are to be kept
  -- yes: IsReceived
  taken : (call : Call) (m : Message) → IsOwnReply call x.seat y.seat (revoked (Ok 5)) → newer ≡ inbox ++ [] → x.inbox.items ≡ m ∷ [] → y.inbox.items ≡ [] → IsPutOrDropped (Keep 1 5) (hand_of x.pass) (hand_of y.pass)
      → IsReceived 1 call x y inbox newer true
  taken call m o s e f p = record { reply = revoked (Ok 5); answered = o; done_is = refl; sent = s; left = f ∙ sym (ap (drop 1) e); jobs = p }

  -- no: IsReceived
  left_there : (call : Call) (m : Message) → x.inbox.items ≡ m ∷ [] → y.inbox.items ≡ m ∷ [] → IsReceived 1 call x y inbox newer true → ⊥
  left_there call m e f t = let l = ap length (sym f ∙ t.left ∙ ap (drop 1) e) in omega (arith, l)

  -- no: IsReceived
  refused_and_gone : (call : Call) (m : Message) → x.inbox.items ≡ m ∷ [] → y.inbox.items ≡ [] → IsReceived 1 call x y inbox newer false → ⊥
  refused_and_gone call m e f t = let l = ap length (sym f ∙ t.left ∙ e) in omega (arith, l)

  -- yes: IsIdle
  idle : newer ≡ inbox → IsIdle x x inbox newer false
  idle e = record { same = refl; sent = e; done_is = refl }

  -- no: IsIdle
  idle_and_done : IsIdle x y inbox newer true → ⊥
  idle_and_done i = true≢false i.done_is

  -- no: IsIdle
  idle_and_sent : length inbox ≡ 1 → length newer ≡ 2 → IsIdle x y inbox newer false → ⊥
  idle_and_sent e f i = let l = ap length i.sent in omega (arith, e, f, l)

  -- yes: IsMade
  made : IsSent (Signing 1) x.seat y.seat inbox newer true → y.inbox ≡ x.inbox → hand_of y.pass ≡ hand_of x.pass → IsMade (Signing 1) x y inbox newer true
  made s l j = record { sent = s; left = l; jobs = j }

  -- no: IsMade
  made_and_taken : (call : Call) (done : Bool) (m : Message) → x.inbox.items ≡ m ∷ [] → y.inbox.items ≡ [] → IsMade call x y inbox newer done → ⊥
  made_and_taken call done m e f is = let l = ap length (sym f ∙ ap (λ i. i.items) is.left ∙ e) in omega (arith, l)

  -- yes: IsDelivered
  delivered : (m : Message) → IsReceived 1 (call_of 1 m) x y inbox newer true → IsDelivered 1 (Some m) x y inbox newer true
  delivered m t = t

  -- no: IsDelivered
  delivered_nothing : IsDelivered 1 None x y inbox newer true → ⊥
  delivered_nothing i = true≢false i.done_is

  -- a signature and a close are calls in the channel, and take no message
  -- yes: IsActed
  signs : IsMade (Signing 3) x y inbox newer true → IsActed 3 (events.Sign B 3) x y inbox newer true
  signs m = m

  -- yes: IsActed
  closes : IsMade (Closing 3) x y inbox newer true → IsActed 3 (events.Close A 3) x y inbox newer true
  closes m = m

  -- no: IsActed
  takes_nothing : x.inbox.items ≡ [] → IsActed 3 (events.Deliver A 3) x y inbox newer true → ⊥
  takes_nothing e d =
      let i : IsDelivered 3 None x y inbox newer true = subst (λ (ms : List Message). IsDelivered 3 (slice_get ms 0) x y inbox newer true) e d in
      true≢false i.done_is

  -- nor is a block an act of a side
  -- no: IsActed
  makes_blocks : IsActed 3 (events.Blocks 6) x y inbox newer true → ⊥
  makes_blocks i = true≢false i.done_is

-- ---- turns

module _ (l m : ChannelThread) where
  -- no: IsFirstChannelThread
  sides_swapped : (h i : History) → length h ≡ 1 → length i ≡ 2 → last_in l.a.seat ≡ i → IsFirstChannelThread h i l → ⊥
  sides_swapped h i e f a k = let g = ap length (sym a ∙ k.a_first.last) in omega (arith, e, f, g)

  -- yes: IsFirstChannelThread
  first_channel_thread : (h i : History) → IsFirstEndpoint h l.a → IsFirstEndpoint i l.b → IsFirstChannelThread h i l
  first_channel_thread h i a b = record { a_first = a; b_first = b }

  module _ (event : Event) where
    -- B's turn: of A the inbox alone changes
    -- yes: HasTurned
    turned : IsActed 1 event l.b m.b l.a.inbox.items m.a.inbox.items true → m.a.seat ≡ l.a.seat → hand_of m.a.pass ≡ hand_of l.a.pass → HasTurned 1 event l.b m.b l.a m.a true
    turned a s j = record { acted = a; seat = s; jobs = j }

    -- no: HasTurned
    peer_called : calls_in l.a.seat ≡ [] → length (calls_in m.a.seat) ≡ 1 → HasTurned 1 event l.b m.b l.a m.a true → ⊥
    peer_called e f t =
        let g = ap length e in
        let h = ap (λ (s : Seat). length (calls_in s)) t.seat in
        omega (arith, f, g, h)

    -- yes: IsTurnOf
    turn_of_b : HasTurned l.channel event l.b m.b l.a m.a true → IsTurnOf B event l m true
    turn_of_b t = t

    -- no: IsTurnOf
    not_of_a : calls_in l.b.seat ≡ [] → length (calls_in m.b.seat) ≡ 1 → IsTurnOf A event l m true → ⊥
    not_of_a e f t =
        let g = ap length e in
        let h = ap (λ (s : Seat). length (calls_in s)) t.seat in
        omega (arith, f, g, h)

  -- a turn of channel 1 is one of it, and none of channel 0
  -- yes: Plays
  plays_turn : IsTurnOf B (events.Sign B 1) l m true → Plays (turn_in 1 (events.Sign B 1)) (events.Sign B 1) l m (record { played = 1; refused = 0 })
  plays_turn t = (true, t, refl)

  -- yes: Plays
  refuses_turn : IsTurnOf B (events.Close B 1) l m false → Plays (turn_in 1 (events.Close B 1)) (events.Close B 1) l m (record { played = 0; refused = 1 })
  refuses_turn t = (false, t, refl)

  -- yes: Plays
  plays_nothing : Plays (turn_in 0 (events.Sign B 1)) (events.Sign B 1) l l no_counts
  plays_nothing = (refl, refl)

  -- no: Plays
  plays_uncounted : Plays (turn_in 1 (events.Sign B 1)) (events.Sign B 1) l m no_counts → ⊥
  plays_uncounted (true, turn, e) = let n : 0 ≡ 1 = ap (λ (c : Counts). c.played) e in omega (arith, n)
  plays_uncounted (false, turn, e) = let n : 0 ≡ 1 = ap (λ (c : Counts). c.refused) e in omega (arith, n)

  -- no: Plays
  counts_no_turn : (e : Event) → Plays None e l m (record { played = 1; refused = 0 }) → ⊥
  counts_no_turn e p = let n : 1 ≡ 0 = ap (λ (c : Counts). c.played) p.1 in omega (arith, n)

  -- two channels, each from its own endpoints
  -- yes: ArePlayed
  two_played : (es : List Event) (p q : PlayedChannel) → IsPlayed es l p → IsPlayed es m q → ArePlayed es (l ∷ m ∷ []) (p ∷ q ∷ [])
  two_played es p q i j = one_more l (m ∷ []) p (q ∷ []) i (one_more m [] q [] j no_more)

  -- without events nothing is counted, and the seats are as they were
  -- yes: PlaysAll, IsPlayed
  no_event : (p : PlayedChannel) → p.counts ≡ no_counts → p.a ≡ l.a.seat → p.b ≡ l.b.seat → PlaysAll [] l l no_counts × IsPlayed [] l p
  no_event p e f g = (none_left l, record { after = l; all = subst (PlaysAll [] l l) (sym e) (none_left l); a = f; b = g })

uncounted : (l m : ChannelThread) (k : Counts) → PlaysAll [] l m k → k.played + k.refused ≡ 0
uncounted l m k (none_left channel_thread) = refl

-- no: PlaysAll
counted_nothing : (l m : ChannelThread) → PlaysAll [] l m (record { played = 1; refused = 0 }) → ⊥
counted_nothing l m p = let e = uncounted l m (record { played = 1; refused = 0 }) p in omega (arith, e)

-- no: IsPlayed
refused_nothing : (l : ChannelThread) (p : PlayedChannel) → p.counts.played + p.counts.refused ≡ 1 → IsPlayed [] l p → ⊥
refused_nothing l p n i = let e = uncounted l i.after p.counts i.all in omega (arith, e, n)

-- no: ArePlayed
nothing_played : (es : List Event) (p : PlayedChannel) → ArePlayed es [] (p ∷ []) → ⊥
nothing_played es p a = elim a [ ]
