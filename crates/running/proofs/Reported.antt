-- What a whole run leaves.
use Rattle.std.proofs.Common.{◌≡◌, ℕ, ◌+◌, List, [], ◌∷◌, ◌++◌, length, map, All, Result, Ok, Err, Option, Some, refl, sym, ◌∙◌, subst, arith, append_assoc, length-append}
use Rattle.std.specs.declared.alloc.AllocError.{AllocError}
use Rattle.std.specs.Prelude.{IfOk}
use Rattle.std.proofs.lemmas.List.{length-map}
use Rattle.std.proofs.lemmas.List.Elements.{All-nil, All-cons, All-append, All-pop, All-map, All-weaker}
use Rattle.scenario.specs.declared.events.Event.{Event}
use Rattle.scenario.specs.declared.scenarios.Scenario.{Scenario}
use Rattle.book.specs.Books.{replay}
use Rattle.desk.specs.declared.desk.Seat.{Seat}
use Rattle.desk.specs.Histories.{History, GoesOn}
use Rattle.desk.specs.Seats.{last_in, opening_in}
use Rattle.world.specs.declared.errors.EventError.{EventError}
use Rattle.world.specs.declared.taken_apart.BooksAndChain.{BooksAndChain}
use Rattle.running.specs.declared.beginning.Opened.{Opened}
use Rattle.running.specs.declared.shared.SideState.{SideState}
use Rattle.running.specs.declared.shared.SharedState.{SharedState}
use Rattle.running.specs.declared.shared.ClosingSeats.{ClosingSeats}
use Rattle.running.specs.declared.channel_thread.PlayedChannel.{PlayedChannel}
use Rattle.running.specs.declared.side_threads.Served.{Served}
use Rattle.running.specs.declared.returned.Returned.{Returned}
use Rattle.running.specs.declared.runs.Report.{Report}
use Rattle.running.specs.Beginning.{IsBegun, IsOpened}
use Rattle.running.specs.Threads.{payments_in, payment_bytes, PaysItself, ClosesAfter, IsLone, KeepsAndReleases, HasServed, seat_in}
use Rattle.running.specs.Homes.{IsLonePair, IsIdleSeat, HaveServed, IsHome, AreHome, channel_seats_a, channel_seats_b, seats_a, seats_b}
use Rattle.running.specs.Outcomes.{PlaysChain}
use Rattle.running.specs.Reports.{IsLeft, IsPlayedOut, IsSettled, IsOfThreads, IsRun, IsReport}
use Rattle.running.proofs.Playing.{counted_all, channels_many}
use Rattle.running.proofs.Entered.{entered}
use Rattle.running.proofs.Turns.{each_makes}
use Rattle.running.proofs.Serving.{idle_worked}
use Rattle.running.proofs.Homing.{are_home}

-- ---- one side

all_lone : (side : SideState) (channel_seats : List Seat) (side_threads : List Served) (chain_thread : Seat) → All (IsLone side.desk) channel_seats → All (HasServed side) side_threads → IsIdleSeat side.desk chain_thread
    → All (IsLone side.desk) (channel_seats ++ (map seat_in side_threads ++ chain_thread ∷ []))
all_lone side channel_seats side_threads chain_thread lone served idle =
    let P : Seat → Type 0 = IsLone side.desk in
    All-append P channel_seats (map seat_in side_threads ++ chain_thread ∷ []) lone
    (All-append P (map seat_in side_threads) (chain_thread ∷ []) (All-map P seat_in side_threads (All-weaker (HasServed side) (λ (s : Served). P (seat_in s)) (λ s is. is.seat) side_threads served))
    (All-cons P chain_thread [] idle.lone (All-nil P)))

all_worked : (side : SideState) (keys : List (List ℕ)) (side_threads : List Served) (chain_thread : Seat) → payment_bytes side.payments.items ≡ keys → All (HasServed side) side_threads → IsIdleSeat side.desk chain_thread
    → All (KeepsAndReleases keys) (map seat_in side_threads ++ chain_thread ∷ [])
all_worked side keys side_threads chain_thread same served idle =
    let P : Seat → Type 0 = KeepsAndReleases keys in
    All-append P (map seat_in side_threads) (chain_thread ∷ [])
    (All-map P seat_in side_threads
    (All-weaker (HasServed side) (λ (s : Served). P (seat_in s)) (λ s is. subst (λ (ks : List (List ℕ)). KeepsAndReleases ks (seat_in s)) same is.work) side_threads served))
    (All-cons P chain_thread [] (idle_worked keys chain_thread idle.calls) (All-nil P))

all_home : (side : SideState) (closing_seat chain_thread : Seat) (channels workers : ℕ) (channel_seats : List Seat) (side_threads : List Served) (book : History) → ClosesAfter side (channels + workers + 2) closing_seat → length channel_seats ≡ channels
    → All (IsLone side.desk) channel_seats → HaveServed side (workers + 1) side_threads → IsIdleSeat side.desk chain_thread → IsSettled side closing_seat (channel_seats ++ (map seat_in side_threads ++ chain_thread ∷ [])) book
    → AreHome (opening_in closing_seat) book (channel_seats ++ (map seat_in side_threads ++ chain_thread ∷ []))
all_home side closing_seat chain_thread channels workers channel_seats side_threads book closes many lone served idle settled =
    let others = map seat_in side_threads ++ chain_thread ∷ [] in
    let few : length (map seat_in side_threads ++ chain_thread ∷ []) ≡ workers + 2 = omega (arith, length-append (map seat_in side_threads) (chain_thread ∷ []), length-map side_threads seat_in, served.many) in
    let all : length (channel_seats ++ (map seat_in side_threads ++ chain_thread ∷ [])) ≡ channels + workers + 2 = omega (arith, length-append channel_seats (map seat_in side_threads ++ chain_thread ∷ []), few, many) in
    let top = closes.top in
    are_home side.desk closing_seat settled.after (channel_seats ++ others) book closes.new.calls closes.new.heard closes.last (omega (arith, all, top)) (all_lone side channel_seats side_threads chain_thread lone served.each idle) settled.takes
    settled.closed

of_threads : (side : SideState) (closing_seat chain_thread : Seat) (channel_seats : List Seat) (side_threads : List Served) (book : History) → PaysItself side closing_seat → All (HasServed side) side_threads → IsIdleSeat side.desk chain_thread
    → AreHome (opening_in closing_seat) book (channel_seats ++ (map seat_in side_threads ++ chain_thread ∷ [])) → IsOfThreads (opening_in closing_seat) book channel_seats
of_threads side closing_seat chain_thread channel_seats side_threads book pays served idle home = record {
  others = map seat_in side_threads ++ chain_thread ∷ [];
  work = all_worked side (payments_in (replay (opening_in closing_seat))) side_threads chain_thread pays served idle;
  home = home;
}

-- the book goes on from what the thread of the chain last saw
chain_thread_since : (opening book : History) (chain_thread : Seat) (channel_seats : List Seat) (side_threads : List Served) → AreHome opening book (channel_seats ++ (map seat_in side_threads ++ chain_thread ∷ [])) → GoesOn (last_in chain_thread) book
chain_thread_since opening book chain_thread channel_seats side_threads are =
    let P : Seat → Type 0 = IsHome opening book in
    let before = channel_seats ++ map seat_in side_threads in
    let all : All P (before ++ chain_thread ∷ []) = subst (All P) (sym (append_assoc channel_seats (map seat_in side_threads) (chain_thread ∷ []))) are.home in
    let own : IsHome opening book chain_thread = (All-pop P (before ++ chain_thread ∷ []) before (Some chain_thread) refl all).1 in
    own.since

-- ---- both sides

lone_a : (shared : SharedState) (played_channels : List PlayedChannel) → All (IsLonePair shared) played_channels → All (IsLone shared.a.desk) (channel_seats_a played_channels)
lone_a shared played_channels all = All-map (IsLone shared.a.desk) (λ (p : PlayedChannel). p.a) played_channels (All-weaker (IsLonePair shared) (λ (p : PlayedChannel). IsLone shared.a.desk p.a) (λ p is. is.a) played_channels all)

lone_b : (shared : SharedState) (played_channels : List PlayedChannel) → All (IsLonePair shared) played_channels → All (IsLone shared.b.desk) (channel_seats_b played_channels)
lone_b shared played_channels all = All-map (IsLone shared.b.desk) (λ (p : PlayedChannel). p.b) played_channels (All-weaker (IsLonePair shared) (λ (p : PlayedChannel). IsLone shared.b.desk p.b) (λ p is. is.b) played_channels all)

pub has_run : (shared : SharedState) (closing_seats : ClosingSeats) (channels workers : ℕ) (events : List Event) (r : Returned) (result : Result Report AllocError) → ClosesAfter shared.a (channels + workers + 2) closing_seats.a
    → ClosesAfter shared.b (channels + workers + 2) closing_seats.b → PaysItself shared.a closing_seats.a → PaysItself shared.b closing_seats.b → IsPlayedOut shared closing_seats channels workers events r
    → IfOk result (λ x. IsSettled shared.a closing_seats.a (seats_a r) x.a) → IfOk result (λ x. IsSettled shared.b closing_seats.b (seats_b r) x.b) → IfOk result (λ x. map (λ p. p.counts) r.played.channels.items ≡ x.channels.items)
    → IfOk result (λ x. x.outcomes.items ≡ r.played.outcomes.items) → IfOk result (IsRun (opening_in closing_seats.a) (opening_in closing_seats.b) channels events)
has_run shared closing_seats channels workers events r (Err e) a b pays_a pays_b out settled_a settled_b counts outcomes = settled_a
has_run shared closing_seats channels workers events r (Ok x) a b pays_a pays_b out settled_a settled_b counts outcomes =
    let played_channels = r.played.channels.items in
    let many = channels_many (opening_in closing_seats.a) (opening_in closing_seats.b) channels events played_channels out.played in
    let chain_thread = r.played.chain_thread in
    let home_a = all_home shared.a closing_seats.a chain_thread.a channels workers (channel_seats_a played_channels) r.side_threads_a.items x.a a (length-map played_channels (λ (p : PlayedChannel). p.a) ∙ many) (lone_a shared played_channels out.played_channels) out.side_threads_a out.chain_thread.a settled_a in
    let home_b = all_home shared.b closing_seats.b chain_thread.b channels workers (channel_seats_b played_channels) r.side_threads_b.items x.b b (length-map played_channels (λ (p : PlayedChannel). p.b) ∙ many) (lone_b shared played_channels out.played_channels) out.side_threads_b out.chain_thread.b settled_b in
    record {
      a_left = subst (λ (h : History). IsLeft h x.a) settled_a.takes.opening settled_a.left;
      b_left = subst (λ (h : History). IsLeft h x.b) settled_b.takes.opening settled_b.left;
      played_channels = played_channels;
      played = out.played;
      counts = counts;
      entered = entered (opening_in closing_seats.a) (opening_in closing_seats.b) events out.played.channel_threads played_channels out.played.first out.played.each;
      turns = each_makes (opening_in closing_seats.a) (opening_in closing_seats.b) events out.played.channel_threads played_channels out.played.first out.played.each;
      chain = record {
        after_a = last_in chain_thread.a;
        after_b = last_in chain_thread.b;
        plays = subst (λ (os : List (Option EventError)). PlaysChain events (opening_in closing_seats.a) (opening_in closing_seats.b) os (last_in chain_thread.a) (last_in chain_thread.b)) (sym outcomes) out.chain;
        since_a = chain_thread_since (opening_in closing_seats.a) x.a chain_thread.a (channel_seats_a played_channels) r.side_threads_a.items home_a;
        since_b = chain_thread_since (opening_in closing_seats.b) x.b chain_thread.b (channel_seats_b played_channels) r.side_threads_b.items home_b;
      };
      a_threads = of_threads shared.a closing_seats.a chain_thread.a (channel_seats_a played_channels) r.side_threads_a.items x.a pays_a out.side_threads_a.each out.chain_thread.a home_a;
      b_threads = of_threads shared.b closing_seats.b chain_thread.b (channel_seats_b played_channels) r.side_threads_b.items x.b pays_b out.side_threads_b.each out.chain_thread.b home_b;
    }

-- ---- the report

pub as_opened : (history : History) (n : ℕ) (o : Opened) → IsOpened history n o → IsOpened (opening_in o.closing_seat) n o
as_opened history n o is = record { made_with = refl; closing_seat = is.closing_seat; resources = is.resources; many = is.many }

pub reported : (scenario : Scenario) (begun : BooksAndChain) (a b : Opened) (m n k : ℕ) (result : Result Report AllocError) → IsBegun scenario begun → IsOpened begun.a m a → IsOpened begun.b n b
    → k ≡ length scenario.channels → IfOk result (IsRun (opening_in a.closing_seat) (opening_in b.closing_seat) k scenario.events) → IfOk result (IsReport scenario)
reported scenario begun a b m n k (Err e) is of_a of_b many run = run
reported scenario begun a b m n k (Ok r) is of_a of_b many run =
    let from_a : IsRun is.world.a.history (opening_in b.closing_seat) k scenario.events r = subst (λ (h : History). IsRun h (opening_in b.closing_seat) k scenario.events r) (of_a.made_with ∙ is.a) run in
    let from_both : IsRun is.world.a.history is.world.b.history k scenario.events r = subst (λ (h : History). IsRun is.world.a.history h k scenario.events r) (of_b.made_with ∙ is.b) from_a in
    let all = subst (λ (j : ℕ). IsRun is.world.a.history is.world.b.history j scenario.events r) many from_both in
    record {
      world = is.world;
      begins = is.begins;
      run = all;
      counted = counted_all is.world.a.history is.world.b.history (length scenario.channels) scenario.events all.played_channels r.channels.items all.played all.counts;
    }
