-- Whose entries a report's books have: of channels' threads, and of those that keep and release.
use Rattle.std.proofs.Common.{◌≡◌, ◌≢◌, ℕ, List, [], ◌∷◌, ◌++◌, map, length, sym, ap, ◌∙◌, subst, arith, length-append}
use Rattle.std.proofs.lemmas.List.Elements.{All-nil, All-cons, All-head, All-tail}
use Rattle.std.specs.Prelude.{All}
use Rattle.book.specs.declared.calls.Batch.{Batch}
use Rattle.book.specs.declared.calls.Call.{Call}
use Rattle.book.specs.declared.calls.Call.TheVariants.{Open, Sign, Close, Keep, Release}
use Rattle.book.specs.declared.calls.Entry.{Entry}
use Rattle.book.specs.declared.calls.Opening.{Opening}
use Rattle.book.specs.Books.{replay}
use Rattle.desk.specs.declared.desk.Seat.{Seat}
use Rattle.desk.specs.Histories.{History, calls_of}
use Rattle.desk.specs.Seats.{number_in, calls_in}
use Rattle.scenario.specs.declared.events.Event.{Event}
use Rattle.running.specs.declared.runs.Report.{Report}
use Rattle.running.specs.Threads.{payments_in, IsKeepOrRelease, KeepsAndReleases}
use Rattle.running.specs.Playing.{AreAllPlayed}
use Rattle.running.specs.Homes.{channel_seats_a, channel_seats_b, IsHome, IsNoSeats, AreHome}
use Rattle.running.specs.Reports.{IsLeft, IsOfThreads, IsCounted, IsTurns, AreTurns, MakesTurns, IsRun}
use Rattle.running.specs.Outcomes.{IsChainPlayed}
use Rattle.law_examples.proofs.Samples.{argument_of}

-- yes: IsHome, by crates/running/proofs/ReportExamples.antt: home
-- no: IsHome, by crates/running/proofs/ReportExamples.antt: of_an_earlier_run
-- yes: AreHome, by crates/running/proofs/ReportExamples.antt: nobody
-- no: AreHome, by crates/running/proofs/ReportExamples.antt: stranger
-- yes: IsCounted, by crates/running/proofs/ReportExamples.antt: counted
-- no: IsCounted, by crates/running/proofs/ReportExamples.antt: counted_less
-- no: MakesTurns, by crates/running/proofs/ReportExamples.antt: keeps_too
-- yes: KeepsAndReleases, by crates/running/proofs/ReportExamples.antt: kept_alone
-- no: KeepsAndReleases, by crates/running/proofs/ReportExamples.antt: signs_too
-- yes: IsKeepOrRelease, by crates/running/proofs/ReportExamples.antt: pays_itself
-- no: IsKeepOrRelease, by crates/running/proofs/ReportExamples.antt: in_no_channel
-- yes: IsReorgOutcome, by crates/running/proofs/OutcomeExamples.antt: none_replaced
-- no: IsReorgOutcome, by crates/running/proofs/OutcomeExamples.antt: told_as_replaced
-- yes: IsOutcome, by crates/running/proofs/OutcomeExamples.antt: blocks_made
-- no: IsOutcome, by crates/running/proofs/OutcomeExamples.antt: told_as_another
-- yes: PlaysChain, by crates/running/proofs/OutcomeExamples.antt: one_played
-- no: PlaysChain, by crates/running/proofs/OutcomeExamples.antt: untold
-- yes: IsChainPlayed, by crates/running/proofs/OutcomeExamples.antt: all_told
-- no: IsChainPlayed, by crates/running/proofs/OutcomeExamples.antt: one_untold
-- yes: IsFoundBy, by crates/running/proofs/BroadcastExamples.antt: not_there
-- no: IsFoundBy, by crates/running/proofs/BroadcastExamples.antt: refused_otherwise
-- yes: IsBroadcast, by crates/running/proofs/BroadcastExamples.antt: no_channel
-- no: IsBroadcast, by crates/running/proofs/BroadcastExamples.antt: no_transaction
-- yes: IsBroadcastOutcome, by crates/running/proofs/BroadcastExamples.antt: told
-- no: IsBroadcastOutcome, by crates/running/proofs/BroadcastExamples.antt: not_told
-- yes: IsMiningOutcome, by crates/running/proofs/BroadcastExamples.antt: mined
-- no: IsMiningOutcome, by crates/running/proofs/BroadcastExamples.antt: too_deep
-- yes: IsOutcomeOf, by crates/running/proofs/BroadcastExamples.antt: of_no_broadcast
-- no: IsOutcomeOf, by crates/running/proofs/BroadcastExamples.antt: refused_without_one

-- what a channel's thread gives back
abbrev PlayedChannel : Type 0
PlayedChannel = argument_of IsCounted

abbrev by : ℕ → Call → Entry
by seat call = record { seat = seat; call = call }

-- ---- calls

-- yes: IsTurns
signs_and_closes : IsTurns (Sign 1) × IsTurns (Close 1)
signs_and_closes = (tt, tt)

-- no: IsTurns
keeps : IsTurns (Keep 1 5 []) → ⊥
keeps t = t

-- no: IsTurns
releases : (batch : Batch) → IsTurns (Release 1 batch) → ⊥
releases batch t = t

-- no: IsTurns
opens : (o : Opening) → IsTurns (Open o) → ⊥
opens o t = t

-- yes: AreTurns
two_turns : AreTurns (by 4 (Sign 1) ∷ by 4 (Close 1) ∷ [])
two_turns =
    let P : Entry → Type 0 = λ e. IsTurns e.call in
    All-cons P (by 4 (Sign 1)) (by 4 (Close 1) ∷ []) tt (All-cons P (by 4 (Close 1)) [] tt (All-nil P))

-- the second one is none
-- no: AreTurns
release_among_them : (batch : Batch) → AreTurns (by 4 (Sign 1) ∷ by 4 (Release 1 batch) ∷ []) → ⊥
release_among_them batch a =
    let P : Entry → Type 0 = λ e. IsTurns e.call in
    All-head P (by 4 (Release 1 batch)) [] (All-tail P (by 4 (Sign 1)) (by 4 (Release 1 batch) ∷ []) a)

-- no: KeepsAndReleases
closes_too : (keys : List (List ℕ)) (s : Seat) → calls_in s ≡ by 4 (Close 1) ∷ [] → KeepsAndReleases keys s → ⊥
closes_too keys s c is =
    let P : Entry → Type 0 = λ e. IsKeepOrRelease keys e.call in
    All-head P (by 4 (Close 1)) [] (subst (All P) c is)

-- no: IsKeepOrRelease
opens_too : (keys : List (List ℕ)) (o : Opening) → IsKeepOrRelease keys (Open o) → ⊥
opens_too keys o k = k

module _ (p : PlayedChannel) where
  -- both of its endpoints
  -- yes: MakesTurns
  makes_turns : AreTurns (calls_in p.a) → AreTurns (calls_in p.b) → MakesTurns p
  makes_turns a b = (a, b)

  -- no: MakesTurns
  keeps_at_b : calls_in p.b ≡ by 1 (Keep 1 5 []) ∷ [] → MakesTurns p → ⊥
  keeps_at_b b makes = All-head (λ (e : Entry). IsTurns e.call) (by 1 (Keep 1 5 [])) [] (subst AreTurns b makes.1)

  -- a call that was made and not counted, and one that was counted and not made
  -- no: IsCounted
  counted_more : length (calls_in p.a) ≡ 2 → length (calls_in p.b) ≡ 1 → p.counts.played ≡ 4 → IsCounted p → ⊥
  counted_more a b k is = omega (arith, a, b, k, is)

  -- the refused ones are none of them
  -- yes: IsCounted
  counts_played : length (calls_in p.a) ≡ 0 → length (calls_in p.b) ≡ 1 → p.counts.played ≡ 1 → p.counts.refused ≡ 7 → IsCounted p
  counts_played a b k refused = omega (arith, a, b, k)

-- ---- seats

module _ (s z : Seat) where
  -- yes: IsNoSeats
  neither : number_in s ≡ 3 → number_in z ≡ 5 → IsNoSeats 4 (s ∷ z ∷ [])
  neither m n =
      let P : Seat → Type 0 = λ x. number_in x ≢ 4 in
      All-cons P s (z ∷ []) (λ e. omega (arith, e, m)) (All-cons P z [] (λ e. omega (arith, e, n)) (All-nil P))

  -- no: IsNoSeats
  second_has_it : number_in z ≡ 4 → IsNoSeats 4 (s ∷ z ∷ []) → ⊥
  second_has_it n is =
      let P : Seat → Type 0 = λ x. number_in x ≢ 4 in
      All-head P z [] (All-tail P s (z ∷ []) is) n

-- the entries of a seat that came home are its calls
-- no: AreHome
entry_lost : (s : Seat) → number_in s ≡ 4 → calls_in s ≡ by 4 (Sign 1) ∷ [] → AreHome [] [] (s ∷ []) → ⊥
entry_lost s n c h =
    let mine = All-head (IsHome [] []) s [] h.home in
    let l : 0 ≡ 1 = ap (λ (x : History). length x) (mine.calls ∙ c) in
    omega (arith, l)

-- ---- whose the later entries are

-- yes: IsOfThreads
of_one_that_keeps : (opening book : History) (channel_seats : List Seat) (s : Seat) → KeepsAndReleases (payments_in (replay opening)) s → AreHome opening book (channel_seats ++ s ∷ []) → IsOfThreads opening book channel_seats
of_one_that_keeps opening book channel_seats s k h =
    let P = KeepsAndReleases (payments_in (replay opening)) in
    record { others = s ∷ []; work = All-cons P s [] k (All-nil P); home = h }

module _ (keys : List (List ℕ)) where
  -- a seat at home in a book that has one signature, of seat 4, is not seat 4, if it only keeps and releases
  signs_not : (s : Seat) → KeepsAndReleases keys s → IsHome [] (by 4 (Sign 1) ∷ []) s → number_in s ≢ 4
  signs_not s k h n =
      let c : calls_in s ≡ by 4 (Sign 1) ∷ [] = sym h.calls ∙ ap (λ (m : ℕ). calls_of m (by 4 (Sign 1) ∷ [])) n in
      let P : Entry → Type 0 = λ e. IsKeepOrRelease keys e.call in
      All-head P (by 4 (Sign 1)) [] (subst (All P) c k)

  nobody_signs : (seats : List Seat) → All (KeepsAndReleases keys) seats → All (IsHome [] (by 4 (Sign 1) ∷ [])) seats → IsNoSeats 4 seats
  nobody_signs [] k h = All-nil (λ (x : Seat). number_in x ≢ 4)
  nobody_signs (s ∷ seats) k h =
      let P = KeepsAndReleases keys in
      let H = IsHome [] (by 4 (Sign 1) ∷ []) in
      All-cons (λ (x : Seat). number_in x ≢ 4) s seats (signs_not s (All-head P s seats k) (All-head H s seats h)) (nobody_signs seats (All-tail P s seats k) (All-tail H s seats h))

-- a signature of no channel's thread
-- no: IsOfThreads
signed_by_a_worker : IsOfThreads [] (by 4 (Sign 1) ∷ []) [] → ⊥
signed_by_a_worker t =
    let none = nobody_signs (payments_in (replay [])) t.others t.work t.home.home in
    let l : 1 ≡ 0 = ap (λ (x : History). length x) (t.home.others 4 none) in
    omega (arith, l)

-- ---- a run

module _ (a b : History) (channels : ℕ) (events : List Event) (r : Report) where
  -- yes: IsRun
  is_run : (played_channels : List PlayedChannel) → IsLeft a r.a → IsLeft b r.b → AreAllPlayed a b channels events played_channels → map (λ p. p.counts) played_channels ≡ r.channels.items → All IsCounted played_channels → All MakesTurns played_channels
      → IsChainPlayed a b events r.outcomes.items r.a r.b → IsOfThreads a r.a (channel_seats_a played_channels) → IsOfThreads b r.b (channel_seats_b played_channels) → IsRun a b channels events r
  is_run played_channels left_a left_b played counts entered turns chain of_a of_b = record {
    a_left = left_a;
    b_left = left_b;
    played_channels = played_channels;
    played = played;
    counts = counts;
    entered = entered;
    turns = turns;
    chain = chain;
    a_threads = of_a;
    b_threads = of_b;
  }

  -- no: IsRun
  b_forgets : length b ≡ 2 → length r.b ≡ 1 → IsRun a b channels events r → ⊥
  b_forgets e f run =
      let g = ap length run.b_left.goes_on.1 in
      let h = length-append b run.b_left.goes_on.0 in
      omega (arith, e, f, g, h)
