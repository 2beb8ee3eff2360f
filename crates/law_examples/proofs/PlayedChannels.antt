-- What a channel's thread played: three events in order, each from what the one before it left, and what it gives back. And all channels, each from its own endpoints.
use Rattle.std.proofs.Common.{◌≡◌, ℕ, suc, ◌+◌, Bool, true, false, List, [], ◌∷◌, map, length, All, Option, Some, None, refl, sym, ap, ◌∙◌, subst, arith}
use Rattle.std.specs.Prelude.{if◌then◌else◌}
use Rattle.std.proofs.lemmas.List.{length-map}
use Rattle.std.proofs.lemmas.List.Elements.{All-nil, All-cons, All-head}
use Rattle.channel.specs.declared.messages.Message.{Message}
use Rattle.channel.specs.Tokens.{peer_tokens}
use Rattle.terms.specs.declared.sides.Side.TheVariants.{A, B}
use Rattle.scenario.specs.declared.events.Event.{Event}
use Rattle.scenario.specs.declared.events.Event.TheVariants as events
use Rattle.book.specs.declared.calls.Call.{Call}
use Rattle.book.specs.declared.calls.Call.TheVariants.{Sign as Signing, Close as Closing}
use Rattle.book.specs.declared.calls.Entry.{Entry}
use Rattle.book.specs.Replies.{Reply, is_accepted, reply_of, extended}
use Rattle.desk.specs.declared.desk.Seat.{Seat}
use Rattle.desk.specs.Histories.{History}
use Rattle.desk.specs.Seats.{number_in, calls_in}
use Rattle.running.specs.declared.counts.Counts.{Counts}
use Rattle.running.specs.Events.{turn_in, count_of, turns_at, turns_in}
use Rattle.running.specs.Acting.{IsMade, IsTurnOf, no_counts, Plays}
use Rattle.running.specs.Playing.{sum_of, PlaysAll, IsPlayed, ArePlayed, IsFirstChannelThread, AreAllPlayed}
use Rattle.running.specs.Reports.{total_of}
use Rattle.law_examples.proofs.Samples.{argument_of}
use Rattle.law_examples.proofs.ChannelThreads.{Endpoint, ChannelThread, PlayedChannel}

abbrev by : ℕ → Call → Entry
by seat call = record { seat = seat; call = call }

abbrev counts_of : (played refused : ℕ) → Counts
counts_of played refused = record { played = played; refused = refused }

-- ---- events in order

-- in channel 4, both sides sign, and a close is refused; a block and an event of channel 2 between them are none of its events
abbrev three_turns : List Event
three_turns = events.Sign B 4 ∷ events.Blocks 6 ∷ events.Sign A 4 ∷ events.Sign B 2 ∷ events.Close A 4 ∷ []

module _ (j l m n : ChannelThread) (of_j : j.channel ≡ 4) (of_l : l.channel ≡ 4) (of_m : m.channel ≡ 4) (of_n : n.channel ≡ 4) where
  -- an event of no turn of the channel
  passes : (e : Event) (x : ChannelThread) → x.channel ≡ 4 → Plays (turn_in 4 e) e x x no_counts → Plays (turn_in x.channel e) e x x no_counts
  passes e x of_x p = subst (λ (c : ℕ). Plays (turn_in c e) e x x no_counts) (sym of_x) p

  b_signs : IsTurnOf B (events.Sign B 4) j l true → Plays (turn_in j.channel (events.Sign B 4)) (events.Sign B 4) j l (counts_of 1 0)
  b_signs t = subst (λ (c : ℕ). Plays (turn_in c (events.Sign B 4)) (events.Sign B 4) j l (counts_of 1 0)) (sym of_j) (true, t, refl)

  a_signs : IsTurnOf A (events.Sign A 4) l m true → Plays (turn_in l.channel (events.Sign A 4)) (events.Sign A 4) l m (counts_of 1 0)
  a_signs t = subst (λ (c : ℕ). Plays (turn_in c (events.Sign A 4)) (events.Sign A 4) l m (counts_of 1 0)) (sym of_l) (true, t, refl)

  a_is_refused : IsTurnOf A (events.Close A 4) m n false → Plays (turn_in m.channel (events.Close A 4)) (events.Close A 4) m n (counts_of 0 1)
  a_is_refused t = subst (λ (c : ℕ). Plays (turn_in c (events.Close A 4)) (events.Close A 4) m n (counts_of 0 1)) (sym of_m) (false, t, refl)

  -- yes: PlaysAll
  three_in_order : IsTurnOf B (events.Sign B 4) j l true → IsTurnOf A (events.Sign A 4) l m true → IsTurnOf A (events.Close A 4) m n false → PlaysAll three_turns j n (counts_of 2 1)
  three_in_order s t u =
      PlaysAll.played (events.Sign B 4) (events.Blocks 6 ∷ events.Sign A 4 ∷ events.Sign B 2 ∷ events.Close A 4 ∷ []) j l n (counts_of 1 0) (counts_of 1 1) (of_l ∙ sym of_j) (b_signs s)
      (PlaysAll.played (events.Blocks 6) (events.Sign A 4 ∷ events.Sign B 2 ∷ events.Close A 4 ∷ []) l l n no_counts (counts_of 1 1) refl (passes (events.Blocks 6) l of_l (refl, refl))
      (PlaysAll.played (events.Sign A 4) (events.Sign B 2 ∷ events.Close A 4 ∷ []) l m n (counts_of 1 0) (counts_of 0 1) (of_m ∙ sym of_l) (a_signs t)
      (PlaysAll.played (events.Sign B 2) (events.Close A 4 ∷ []) m m n no_counts (counts_of 0 1) refl (passes (events.Sign B 2) m of_m (refl, refl))
      (PlaysAll.played (events.Close A 4) [] m n n (counts_of 0 1) no_counts (of_n ∙ sym of_m) (a_is_refused u) (PlaysAll.none_left n)))))

  -- the seats as the last event left them
  -- yes: IsPlayed
  gives_back : (p : PlayedChannel) → PlaysAll three_turns j n (counts_of 2 1) → p.counts ≡ counts_of 2 1 → p.a ≡ n.a.seat → p.b ≡ n.b.seat → IsPlayed three_turns j p
  gives_back p all c a b = record { after = n; all = subst (PlaysAll three_turns j n) (sym c) all; a = a; b = b }

-- ---- what two events come to

first_played : (e : Event) (es : List Event) (l n : ChannelThread) (k : Counts) → PlaysAll (e ∷ es) l n k
    → (m : ChannelThread) × (c : Counts) × (more : Counts) × (m.channel ≡ l.channel) × Plays (turn_in l.channel e) e l m c × PlaysAll es m n more × (k ≡ sum_of c more)
first_played e es l n k (PlaysAll.played f fs before between after counts more same one rest) = (between, counts, more, same, one, rest, refl)

none_played : (l n : ChannelThread) (k : Counts) → PlaysAll [] l n k → (n ≡ l) × (k ≡ no_counts)
none_played l n k (PlaysAll.none_left channel_thread) = (refl, refl)

-- one more call in a seat's name, if it was accepted
called : (call : Call) (x y : Endpoint) (inbox newer : List Message) (done : Bool) → IsMade call x y inbox newer done → calls_in y.seat ≡ extended done (calls_in x.seat) (number_in x.seat) call
called call x y inbox newer done made =
    let own = made.sent.answered in
    let is : is_accepted (reply_of peer_tokens own.history call) ≡ done = ap (λ (r : Reply). is_accepted r) (sym own.reply_is) ∙ sym made.sent.done_is in
    own.calls ∙ ap (λ (d : Bool). extended d (calls_in x.seat) (number_in x.seat) call) is

abbrev counted : Bool → Counts
counted done = if done then counts_of 1 0 else counts_of 0 1

-- what B's seat has called, and what was counted
abbrev Calls : Call → ChannelThread → ChannelThread → Counts → Type 0
Calls call l m c = (done : Bool) × (calls_in m.b.seat ≡ extended done (calls_in l.b.seat) (number_in l.b.seat) call) × (c ≡ counted done)

signs : (l m : ChannelThread) (c : Counts) → l.channel ≡ 4 → Plays (turn_in l.channel (events.Sign B 4)) (events.Sign B 4) l m c → Calls (Signing 4) l m c
signs l m c of_l p =
    let q : Plays (turn_in 4 (events.Sign B 4)) (events.Sign B 4) l m c = subst (λ (n : ℕ). Plays (turn_in n (events.Sign B 4)) (events.Sign B 4) l m c) of_l p in
    let made : IsMade (Signing 4) l.b m.b l.a.inbox.items m.a.inbox.items q.0 = subst (λ (n : ℕ). IsMade (Signing n) l.b m.b l.a.inbox.items m.a.inbox.items q.0) of_l q.1.acted in
    (q.0, called (Signing 4) l.b m.b l.a.inbox.items m.a.inbox.items q.0 made, q.2)

closes : (l m : ChannelThread) (c : Counts) → l.channel ≡ 4 → Plays (turn_in l.channel (events.Close B 4)) (events.Close B 4) l m c → Calls (Closing 4) l m c
closes l m c of_l p =
    let q : Plays (turn_in 4 (events.Close B 4)) (events.Close B 4) l m c = subst (λ (n : ℕ). Plays (turn_in n (events.Close B 4)) (events.Close B 4) l m c) of_l p in
    let made : IsMade (Closing 4) l.b m.b l.a.inbox.items m.a.inbox.items q.0 = subst (λ (n : ℕ). IsMade (Closing n) l.b m.b l.a.inbox.items m.a.inbox.items q.0) of_l q.1.acted in
    (q.0, called (Closing 4) l.b m.b l.a.inbox.items m.a.inbox.items q.0 made, q.2)

-- B signs and then closes
abbrev two_turns : List Event
two_turns = events.Sign B 4 ∷ events.Close B 4 ∷ []

module _ (l n : ChannelThread) (k : Counts) (of_l : l.channel ≡ 4) (fresh : calls_in l.b.seat ≡ []) where
  both : PlaysAll two_turns l n k → (d : Bool) × (e : Bool) × (s : ℕ) × (t : ℕ) × (calls_in n.b.seat ≡ extended e (extended d [] s (Signing 4)) t (Closing 4)) × (k ≡ sum_of (counted d) (sum_of (counted e) no_counts))
  both all =
      let (m, c, more, same, one, rest, sum) = first_played (events.Sign B 4) (events.Close B 4 ∷ []) l n k all in
      let (o, f, last, same_too, two, none, sum_too) = first_played (events.Close B 4) [] m n more rest in
      let (d, called_first, first) = signs l m c of_l one in
      let (e, called_second, second) = closes m o f (same ∙ of_l) two in
      let end = none_played o n last none in (
        d,
        e,
        number_in l.b.seat,
        number_in m.b.seat,
        ap (λ (x : ChannelThread). calls_in x.b.seat) end.0 ∙ called_second ∙ ap (λ (h : History). extended e h (number_in m.b.seat) (Closing 4)) (called_first ∙ ap (λ (h : History). extended d h (number_in l.b.seat) (Signing 4)) fresh),
        sum ∙ ap (λ (x : Counts). sum_of x more) first ∙ ap (sum_of (counted d)) (sum_too ∙ ap (λ (x : Counts). sum_of x last) second ∙ ap (sum_of (counted e)) end.1),
      )

  -- as many as were played
  as_many : PlaysAll two_turns l n k → (length (calls_in n.b.seat) ≡ k.played) × (k.played + k.refused ≡ 2)
  as_many all =
      let (d, e, s, t, calls, counts) = both all in
      let here = long d e s t in
      (ap length calls ∙ here.0 ∙ ap (λ (x : Counts). x.played) (sym counts), ap total_of counts ∙ here.1)
    where
      long : (d e : Bool) (s t : ℕ) → (length (extended e (extended d [] s (Signing 4)) t (Closing 4)) ≡ (sum_of (counted d) (sum_of (counted e) no_counts)).played) × (total_of (sum_of (counted d) (sum_of (counted e) no_counts)) ≡ 2)
      long true true s t = (refl, refl)
      long true false s t = (refl, refl)
      long false true s t = (refl, refl)
      long false false s t = (refl, refl)

  -- the close before the signature
  -- no: PlaysAll
  other_order : calls_in n.b.seat ≡ by 7 (Closing 4) ∷ by 7 (Signing 4) ∷ [] → PlaysAll two_turns l n k → ⊥
  other_order c all = let (d, e, s, t, calls, counts) = both all in ordered d e s t (sym calls ∙ c)
    where
      ordered : (d e : Bool) (s t : ℕ) → extended e (extended d [] s (Signing 4)) t (Closing 4) ≡ by 7 (Closing 4) ∷ by 7 (Signing 4) ∷ [] → ⊥
      ordered true true s t i = let j = ap (λ (h : History). map (λ x. x.call) h) i in absurd cc
      ordered true false s t i = let j = ap length i in omega (arith, j)
      ordered false true s t i = let j = ap length i in omega (arith, j)
      ordered false false s t i = let j = ap length i in omega (arith, j)

  -- one of the two was not played
  -- no: PlaysAll
  one_left_out : k.played + k.refused ≡ 1 → PlaysAll two_turns l n k → ⊥
  one_left_out c all = let is = as_many all in omega (arith, c, is.1)

  -- a refused one was counted as played, and a played one as refused
  -- no: PlaysAll
  counted_more : length (calls_in n.b.seat) ≡ 1 → k.played ≡ 2 → PlaysAll two_turns l n k → ⊥
  counted_more c p all = let is = as_many all in omega (arith, c, p, is.0)

  -- no: PlaysAll
  counted_less : length (calls_in n.b.seat) ≡ 2 → k.refused ≡ 1 → PlaysAll two_turns l n k → ⊥
  counted_less c p all = let is = as_many all in omega (arith, c, p, is.0, is.1)

-- ---- what a channel's thread gives back

module _ (l : ChannelThread) (p : PlayedChannel) where
  -- the seat as the first event left it
  -- no: IsPlayed
  last_call_lost : l.channel ≡ 4 → calls_in l.b.seat ≡ [] → p.counts.played ≡ 2 → length (calls_in p.b) ≡ 1 → IsPlayed two_turns l p → ⊥
  last_call_lost of_l fresh c n is =
      let many = as_many l is.after p.counts of_l fresh is.all in
      let same = ap (λ (s : Seat). length (calls_in s)) is.b in
      omega (arith, c, n, many.0, same)

  -- no: IsPlayed
  ends_swapped : (x : Entry) → calls_in l.a.seat ≡ [] → calls_in l.b.seat ≡ x ∷ [] → p.a ≡ l.b.seat → IsPlayed [] l p → ⊥
  ends_swapped x a b swapped is =
      let end = none_played l is.after p.counts is.all in
      let one : length (calls_in p.a) ≡ 1 = ap (λ (s : Seat). length (calls_in s)) swapped ∙ ap length b in
      let none : length (calls_in p.a) ≡ 0 = ap (λ (s : Seat). length (calls_in s)) (is.a ∙ ap (λ (x : ChannelThread). x.a.seat) end.0) ∙ ap length a in
      omega (arith, one, none)

-- ---- all channels

-- a turn, if there is one
abbrev TurnOrNone : Type 0
TurnOrNone = argument_of Plays

plays_total : (t : TurnOrNone) (e : Event) (l m : ChannelThread) (k : Counts) → Plays t e l m k → total_of k ≡ count_of t
plays_total None e l m k is = ap total_of is.1
plays_total (Some turn) e l m k (true, turned, is) = ap total_of is
plays_total (Some turn) e l m k (false, turned, is) = ap total_of is

-- as many were counted as there are events of the channel
all_total : (es : List Event) (l n : ChannelThread) (k : Counts) → PlaysAll es l n k → total_of k ≡ turns_in l.channel es
all_total es l n k (PlaysAll.none_left channel_thread) = refl
all_total es l n k (PlaysAll.played e rest first between last counts more same one others) =
    let here : total_of counts ≡ turns_at first.channel e = plays_total (turn_in first.channel e) e first between counts one in
    let later : total_of more ≡ turns_in first.channel rest = all_total rest between last more others ∙ ap (λ (c : ℕ). turns_in c rest) same in
    omega (arith, here, later)

-- three events of channel 1, and one of channel 0
abbrev four_turns : List Event
four_turns = events.Sign B 1 ∷ events.Sign A 1 ∷ events.Sign A 0 ∷ events.Close B 1 ∷ []

module _ (h i : History) (p q : PlayedChannel) where
  -- yes: AreAllPlayed
  two_channels : (es : List Event) (l m : ChannelThread) → l.channel ≡ 0 → m.channel ≡ 1 → IsFirstChannelThread h i l → IsFirstChannelThread h i m → IsPlayed es l p → IsPlayed es m q → AreAllPlayed h i 2 es (p ∷ q ∷ [])
  two_channels es l m of_l of_m f g x y = record {
    channel_threads = l ∷ m ∷ [];
    numbers = rw (of_l, of_m) refl;
    first = All-cons (IsFirstChannelThread h i) l (m ∷ []) f (All-cons (IsFirstChannelThread h i) m [] g (All-nil (IsFirstChannelThread h i)));
    each = ArePlayed.one_more l (m ∷ []) p (q ∷ []) x (ArePlayed.one_more m [] q [] y ArePlayed.no_more);
  }

  threads_many : (es : List Event) (ls : List ChannelThread) (ps : List PlayedChannel) → ArePlayed es ls ps → length ls ≡ length ps
  threads_many es ls ps ArePlayed.no_more = refl
  threads_many es ls ps (ArePlayed.one_more x xs y ys is others) = ap suc (threads_many es xs ys others)

  channels_many : (n : ℕ) (es : List Event) (ps : List PlayedChannel) → (a : AreAllPlayed h i n es ps) → length (map (λ (l : ChannelThread). l.channel) a.channel_threads) ≡ length ps
  channels_many n es ps a = length-map a.channel_threads _ ∙ threads_many es a.channel_threads ps a.each

  -- a channel more, and one less
  -- no: AreAllPlayed
  third_unplayed : (es : List Event) → AreAllPlayed h i 3 es (p ∷ q ∷ []) → ⊥
  third_unplayed es a =
      let three : length (map (λ (l : ChannelThread). l.channel) a.channel_threads) ≡ 3 = ap length a.numbers in
      let two = channels_many 3 es (p ∷ q ∷ []) a in
      omega (arith, three, two)

  -- no: AreAllPlayed
  second_invented : (es : List Event) → AreAllPlayed h i 1 es (p ∷ q ∷ []) → ⊥
  second_invented es a =
      let one : length (map (λ (l : ChannelThread). l.channel) a.channel_threads) ≡ 1 = ap length a.numbers in
      let two = channels_many 1 es (p ∷ q ∷ []) a in
      omega (arith, one, two)

  -- the first of these threads is that of the first number
  first_total : (n : ℕ) (ns : List ℕ) (es : List Event) (ls : List ChannelThread) (ps : List PlayedChannel) → map (λ (l : ChannelThread). l.channel) ls ≡ n ∷ ns → ArePlayed es ls (p ∷ ps) → total_of p.counts ≡ turns_in n es
  first_total n ns es ls ps c (ArePlayed.one_more l others x xs is rest) =
      let same : l.channel ≡ n = cc in
      all_total es l is.after x.counts is.all ∙ ap (λ (m : ℕ). turns_in m es) same

  -- the three events of channel 1, in the place of that of channel 0
  -- no: AreAllPlayed
  other_channel : total_of p.counts ≡ 3 → AreAllPlayed h i 1 four_turns (p ∷ []) → ⊥
  other_channel n a = let one = first_total 0 [] four_turns a.channel_threads [] a.numbers a.each in omega (arith, n, one)

  -- no: AreAllPlayed
  channels_exchanged : total_of p.counts ≡ 3 → total_of q.counts ≡ 1 → AreAllPlayed h i 2 four_turns (p ∷ q ∷ []) → ⊥
  channels_exchanged n m a = let one = first_total 0 (1 ∷ []) four_turns a.channel_threads (q ∷ []) a.numbers a.each in omega (arith, n, one)

  first_called : (es : List Event) (x : Entry) (ls : List ChannelThread) → es ≡ [] → All (IsFirstChannelThread h i) ls → calls_in p.a ≡ x ∷ [] → ArePlayed es ls (p ∷ []) → ⊥
  first_called es x ls none first c (ArePlayed.one_more l others y ys is rest) =
      let begins = All-head (IsFirstChannelThread h i) l others first in
      let end = none_played l is.after y.counts (subst (λ (fs : List Event). PlaysAll fs l is.after y.counts) none is.all) in
      let is_none : length (calls_in y.a) ≡ 0 = ap (λ (s : Seat). length (calls_in s)) (is.a ∙ ap (λ (z : ChannelThread). z.a.seat) end.0) ∙ ap length begins.a_first.calls in
      let is_one : length (calls_in y.a) ≡ 1 = ap length c in
      omega (arith, is_none, is_one)

  -- a call that was made before the first event
  -- no: AreAllPlayed
  called_before : (x : Entry) → calls_in p.a ≡ x ∷ [] → AreAllPlayed h i 1 [] (p ∷ []) → ⊥
  called_before x c a = first_called [] x a.channel_threads refl a.first c a.each
