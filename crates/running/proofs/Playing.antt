-- Events of channels, one after the other, and how many they are.
use Rattle.std.proofs.Common.{◌≡◌, ℕ, zero, suc, ◌+◌, ◌<◌, ◌≤◌, true, false, List, [], ◌∷◌, length, map, drop, get_or, All, Option, Some, None, Result, Ok, refl, sym, ap, ◌∙◌, subst, arith, add-one, drop-cons}
use Rattle.std.specs.declared.alloc.AllocError.{AllocError}
use Rattle.std.specs.Prelude.{IfOk}
use Rattle.std.specs.List.{range_with_len}
use Rattle.std.proofs.lemmas.List.{drop_all, length-map}
use Rattle.std.proofs.lemmas.List.Elements.{All-nil, All-cons}
use Rattle.std.proofs.lemmas.Simd.{map-map}
use Rattle.scenario.specs.declared.events.Event.{Event}
use Rattle.desk.specs.Histories.{History}
use Rattle.running.specs.declared.channel_thread.Turn.{Turn}
use Rattle.desk.specs.declared.desk.Seat.{Seat}
use Rattle.running.specs.declared.shared.SideState.{SideState}
use Rattle.running.specs.declared.shared.SharedState.{SharedState}
use Rattle.running.specs.declared.endpoints.Endpoint.{Endpoint}
use Rattle.running.specs.declared.channel_thread.ChannelThread.{ChannelThread}
use Rattle.running.specs.declared.channel_thread.PlayedChannel.{PlayedChannel}
use Rattle.running.specs.declared.counts.Counts.{Counts}
use Rattle.running.specs.Events.{turn_in, count_of, turns_at, turns_in, all_turns}
use Rattle.running.specs.Acting.{no_counts, Plays}
use Rattle.running.specs.Playing.{sum_of, PlaysAll, IsPlayed, ArePlayed, AreAllPlayed}
use Rattle.running.specs.Threads.{IsEndpoint, IsChannelThread, IsLone}
use Rattle.running.specs.Homes.{IsLonePair}
use Rattle.running.specs.Reports.{total_of}

-- ---- sums

abbrev pair_of : ℕ → ℕ → Counts
pair_of p r = record { played = p; refused = r }

none_sum : (k : Counts) → sum_of no_counts k ≡ k
none_sum k =
    let one : 0 + k.played ≡ k.played = omega arith in
    let two : 0 + k.refused ≡ k.refused = omega arith in
    ap (λ (n : ℕ). pair_of n (0 + k.refused)) one ∙ ap (λ (n : ℕ). pair_of k.played n) two

sum_none : (k : Counts) → sum_of k no_counts ≡ k
sum_none k =
    let one : k.played + 0 ≡ k.played = omega arith in
    let two : k.refused + 0 ≡ k.refused = omega arith in
    ap (λ (n : ℕ). pair_of n (k.refused + 0)) one ∙ ap (λ (n : ℕ). pair_of k.played n) two

sum_more : (x y z : Counts) → sum_of x (sum_of y z) ≡ sum_of (sum_of x y) z
sum_more x y z =
    let one : x.played + (y.played + z.played) ≡ x.played + y.played + z.played = omega arith in
    let two : x.refused + (y.refused + z.refused) ≡ x.refused + y.refused + z.refused = omega arith in
    ap (λ (n : ℕ). pair_of n (x.refused + (y.refused + z.refused))) one ∙ ap (λ (n : ℕ). pair_of (x.played + y.played + z.played) n) two

-- ---- the events of one channel

-- whatever follows from here follows from the first state of the thread
abbrev pub GoesOnFrom : List Event → ℕ → ChannelThread → ChannelThread → Counts → Type 0
GoesOnFrom es i first l so = (more : Counts) (after : ChannelThread) → PlaysAll (drop i es) l after more → PlaysAll es first after (sum_of so more)

pub played_first : (es : List Event) (first : ChannelThread) → GoesOnFrom es 0 first first no_counts
played_first es first more after all = subst (λ (s : Counts). PlaysAll es first after s) (sym (none_sum more)) all

pub played_next : (es : List Event) (i : ℕ) (d e : Event) (first l m : ChannelThread) (so k now : Counts) → i < length es → e ≡ get_or es i d → m.channel ≡ l.channel → Plays (turn_in l.channel e) e l m k
    → now ≡ sum_of so k → GoesOnFrom es i first l so → GoesOnFrom es (i + 1) first m now
played_next es i d e first l m so k now low is same one sum was more after rest =
    let here : drop i es ≡ e ∷ drop (i + 1) es =
    drop-cons es i d low ∙ ap (λ (x : Event). x ∷ drop (suc i) es) (sym is) ∙ ap (λ (n : ℕ). e ∷ drop n es) (sym (add-one i)) in
    let step : PlaysAll (drop i es) l after (sum_of k more) =
    subst (λ (xs : List Event). PlaysAll xs l after (sum_of k more)) (sym here) (PlaysAll.played e (drop (i + 1) es) l m after k more same one rest) in
    subst (λ (s : Counts). PlaysAll es first after s) (sum_more so k more ∙ ap (λ (t : Counts). sum_of t more) (sym sum)) (was (sum_of k more) after step)

pub all_played : (es : List Event) (i : ℕ) (first l : ChannelThread) (so : Counts) → length es ≤ i → GoesOnFrom es i first l so → PlaysAll es first l so
all_played es i first l so past was =
    let last : PlaysAll (drop i es) l l no_counts = subst (λ (xs : List Event). PlaysAll xs l l no_counts) (sym (drop_all i es past)) (PlaysAll.none_left l) in
    subst (λ (s : Counts). PlaysAll es first l s) (sum_none so) (was no_counts l last)

-- ---- how many they are

plays_total : (t : Option Turn) (e : Event) (before after : ChannelThread) (k : Counts) → Plays t e before after k → total_of k ≡ count_of t
plays_total None e before after k is = ap total_of is.1
plays_total (Some turn) e before after k (true, turned, is) = ap total_of is
plays_total (Some turn) e before after k (false, turned, is) = ap total_of is

all_total : (es : List Event) (before after : ChannelThread) (k : Counts) → PlaysAll es before after k → total_of k ≡ turns_in before.channel es
all_total es before after k (PlaysAll.none_left channel_thread) = refl
all_total es before after k (PlaysAll.played e rest first between last counts more same one others) =
    let here : total_of counts ≡ turns_at first.channel e = plays_total (turn_in first.channel e) e first between counts one in
    let later : total_of more ≡ turns_in first.channel rest = all_total rest between last more others ∙ ap (λ (c : ℕ). turns_in c rest) same in
    let sum : total_of (sum_of counts more) ≡ total_of counts + total_of more = omega arith in
    sum ∙ ap (λ (n : ℕ). n + total_of more) here ∙ ap (λ (n : ℕ). turns_at first.channel e + n) later

totals : (events : List Event) (channel_threads : List ChannelThread) (played : List PlayedChannel) → ArePlayed events channel_threads played → map (λ p. total_of p.counts) played ≡ map (λ l. turns_in l.channel events) channel_threads
totals events channel_threads played ArePlayed.no_more = refl
totals events channel_threads played (ArePlayed.one_more l ls p ps is others) =
    ap (λ (n : ℕ). n ∷ map (λ p. total_of p.counts) ps) (all_total events l is.after p.counts is.all) ∙ ap (λ (ns : List ℕ). turns_in l.channel events ∷ ns) (totals events ls ps others)

-- the channels of these threads are all below a number
pub counted_all : (a b : History) (n : ℕ) (events : List Event) (played : List PlayedChannel) (counts : List Counts) → AreAllPlayed a b n events played → map (λ p. p.counts) played ≡ counts
    → map total_of counts ≡ all_turns n events
counted_all a b n events played counts all same =
    ap (λ (ks : List Counts). map total_of ks) (sym same) ∙ map-map total_of (λ (p : PlayedChannel). p.counts) played ∙ totals events all.channel_threads played all.each
    ∙ sym (map-map (λ (c : ℕ). turns_in c events) (λ (l : ChannelThread). l.channel) all.channel_threads) ∙ ap (λ (cs : List ℕ). map (λ c. turns_in c events) cs) all.numbers

-- as many as channels
pub as_many : (events : List Event) (channel_threads : List ChannelThread) (played : List PlayedChannel) → ArePlayed events channel_threads played → length played ≡ length channel_threads
as_many events channel_threads played ArePlayed.no_more = refl
as_many events channel_threads played (ArePlayed.one_more l ls p ps is others) = ap suc (as_many events ls ps others)

range_long : (a n : ℕ) → length (range_with_len a n) ≡ n
range_long a zero = refl
range_long a (suc n) = ap suc (range_long (a + 1) n)

pub channels_many : (a b : History) (n : ℕ) (events : List Event) (played : List PlayedChannel) → AreAllPlayed a b n events played → length played ≡ n
channels_many a b n events played all =
    as_many events all.channel_threads played all.each ∙ sym (length-map all.channel_threads (λ (l : ChannelThread). l.channel)) ∙ ap (λ (cs : List ℕ). length cs) all.numbers ∙ range_long 0 n

-- ---- what each thread gives back

pub gives_back : (es : List Event) (first last : ChannelThread) (k : Counts) (p : PlayedChannel) → p.counts ≡ k → p.a ≡ last.a.seat → p.b ≡ last.b.seat → PlaysAll es first last k → IsPlayed es first p
gives_back es first last k p counts a b all = record { after = last; all = subst (λ (x : Counts). PlaysAll es first last x) (sym counts) all; a = a; b = b }

lone_end : (side : SideState) (e : Endpoint) (s : Seat) → IsEndpoint side e → s ≡ e.seat → IsLone side.desk s
lone_end side e s is same = subst (λ (x : Seat). IsLone side.desk x) (sym same) (record { seat_of = is.seat; heard = is.heard })

pub lone_pair : (shared : SharedState) (l : ChannelThread) (p : PlayedChannel) → IsChannelThread shared l → p.a ≡ l.a.seat → p.b ≡ l.b.seat → IsLonePair shared p
lone_pair shared l p is a b = record { a = lone_end shared.a l.a p.a is.a a; b = lone_end shared.b l.b p.b is.b b }

pub played_each : (events : List Event) (channel_threads : List ChannelThread) (played : List PlayedChannel) → length played ≡ length channel_threads
    → ((i : ℕ) (d : Result PlayedChannel AllocError) (l : ChannelThread) → i < length channel_threads → IfOk (get_or (map Ok played) i d) (IsPlayed events (get_or channel_threads i l)))
    → ArePlayed events channel_threads played
played_each events [] [] many each = ArePlayed.no_more
played_each events [] (p ∷ ps) many each = absurd (omega (arith, many))
played_each events (l ∷ ls) [] many each = absurd (omega (arith, many))
played_each events (l ∷ ls) (p ∷ ps) many each =
    ArePlayed.one_more l ls p ps (each 0 (Ok p) l (omega arith)) (played_each events ls ps (omega (arith, many)) (λ i d m low. each (suc i) d m (omega (arith, low))))

pub lone_each : (shared : SharedState) (played : List PlayedChannel) → ((i : ℕ) (d : Result PlayedChannel AllocError) → i < length played → IfOk (get_or (map Ok played) i d) (IsLonePair shared)) → All (IsLonePair shared) played
lone_each shared [] each = All-nil (IsLonePair shared)
lone_each shared (p ∷ ps) each = All-cons (IsLonePair shared) p ps (each 0 (Ok p) (omega arith)) (lone_each shared ps (λ i d low. each (suc i) d (omega (arith, low))))
