-- Whose entries a report's books have: each relation where it holds, and right beside it where it does not.
use Rattle.std.proofs.Common.{◌≡◌, ◌≢◌, ℕ, ◌+◌, List, [], ◌∷◌, ◌++◌, length, Option, Some, None, All, refl, sym, ap, ◌∙◌, subst, arith}
use Rattle.std.proofs.lemmas.List.Elements.{All-nil, All-cons, All-head}
use Rattle.std.proofs.lemmas.Option.{none-some}
use Rattle.std.specs.Prelude.{slice_get}
use Rattle.tx.specs.Parts.{Output}
use Rattle.book.specs.declared.calls.Entry.{Entry}
use Rattle.book.specs.declared.calls.Call.{Call}
use Rattle.book.specs.declared.calls.Call.TheVariants.{Sign, Keep, Release}
use Rattle.book.specs.declared.calls.Batch.{Batch}
use Rattle.desk.specs.declared.desk.Seat.{Seat}
use Rattle.desk.specs.Histories.{History, calls_of}
use Rattle.desk.specs.Seats.{number_in, calls_in, last_in}
use Rattle.side.specs.declared.due.DueClaim.{DueClaim}
use Rattle.side.specs.Batches.{claims_in, preimages_for, output_for}
use Rattle.running.specs.declared.channel_thread.PlayedChannel.{PlayedChannel}
use Rattle.running.specs.Threads.{IsKeepOrRelease, KeepsAndReleases}
use Rattle.running.specs.Homes.{IsHome, AreHome}
use Rattle.running.specs.Reports.{IsCounted, IsTurns, AreTurns, MakesTurns}

abbrev signs : ℕ → Entry
signs seat = record { seat = seat; call = Sign 1 }

abbrev keeps : ℕ → Entry
keeps seat = record { seat = seat; call = Keep 1 5 [] }

-- ---- seats at home

module _ (s : Seat) where
  home : number_in s ≡ 4 → calls_in s ≡ signs 4 ∷ [] → last_in s ≡ [] → IsHome [] (signs 4 ∷ []) s
  home n c l = record {
    calls = ap (λ (k : ℕ). calls_of k (signs 4 ∷ [])) n ∙ sym c;
    since = (signs 4 ∷ [], ap (λ (h : History). h ++ signs 4 ∷ []) (sym l));
    later = omega arith;
  }

  -- the book has an entry in its name that it did not make
  invented : number_in s ≡ 4 → calls_in s ≡ [] → IsHome [] (signs 4 ∷ []) s → ⊥
  invented n c h =
      let none : length (calls_of (number_in s) (signs 4 ∷ [])) ≡ 0 = ap (λ (l : History). length l) (h.calls ∙ c) in
      let one : length (calls_of (number_in s) (signs 4 ∷ [])) ≡ 1 = ap (λ (k : ℕ). length (calls_of k (signs 4 ∷ []))) n in
      omega (arith, none, one)

  -- the book lost the entry that it made
  lost : calls_in s ≡ signs 4 ∷ [] → IsHome [] [] s → ⊥
  lost c h =
      let one : 0 ≡ 1 = ap (λ (l : History). length l) (h.calls ∙ c) in
      omega (arith, one)

  -- its number stands in the opening book
  of_an_earlier_run : number_in s ≡ 4 → IsHome (signs 4 ∷ []) (signs 4 ∷ []) s → ⊥
  of_an_earlier_run n h = let low = h.later in omega (arith, n, low)

nobody : AreHome (signs 3 ∷ []) (signs 3 ∷ []) []
nobody = record { home = All-nil (IsHome (signs 3 ∷ []) (signs 3 ∷ [])); others = λ n none. refl }

-- an entry of a seat that did not come home
stranger : AreHome [] (signs 4 ∷ []) [] → ⊥
stranger h =
    let one : 1 ≡ 0 = ap (λ (l : History). length l) (h.others 4 (All-nil (λ (x : Seat). number_in x ≢ 4))) in
    omega (arith, one)

-- ---- calls

module _ (p : PlayedChannel) where
  counted : calls_in p.a ≡ signs 0 ∷ signs 0 ∷ [] → calls_in p.b ≡ signs 1 ∷ [] → p.counts.played ≡ 3 → IsCounted p
  counted a b k =
      let two : length (calls_in p.a) ≡ 2 = ap (λ (l : History). length l) a in
      let one : length (calls_in p.b) ≡ 1 = ap (λ (l : History). length l) b in
      omega (arith, two, one, k)

  counted_less : calls_in p.a ≡ signs 0 ∷ signs 0 ∷ [] → calls_in p.b ≡ signs 1 ∷ [] → p.counts.played ≡ 2 → IsCounted p → ⊥
  counted_less a b k is =
      let two : length (calls_in p.a) ≡ 2 = ap (λ (l : History). length l) a in
      let one : length (calls_in p.b) ≡ 1 = ap (λ (l : History). length l) b in
      omega (arith, two, one, k, is)

  -- a channel's thread keeps nothing
  keeps_too : calls_in p.a ≡ keeps 0 ∷ [] → MakesTurns p → ⊥
  keeps_too a makes = All-head (λ (e : Entry). IsTurns e.call) (keeps 0) [] (subst AreTurns a makes.0)

-- a seat that is no channel's does not sign
signs_too : (keys : List (List ℕ)) (s : Seat) → calls_in s ≡ signs 4 ∷ [] → KeepsAndReleases keys s → ⊥
signs_too keys s c is = All-head (λ (e : Entry). IsKeepOrRelease keys e.call) (signs 4) [] (subst (All (λ e. IsKeepOrRelease keys e.call)) c is)

-- it keeps
kept_alone : (keys : List (List ℕ)) (s : Seat) → calls_in s ≡ keeps 4 ∷ [] → KeepsAndReleases keys s
kept_alone keys s c =
    let P : Entry → Type 0 = λ e. IsKeepOrRelease keys e.call in
    subst (All P) (sym c) (All-cons P (keeps 4) [] tt (All-nil P))

module _ (due : DueClaim) (key : List ℕ) where
  abbrev releases : Batch → Call
  releases batch = Release due.channel batch

  -- to the key of the claim's channel
  pays_itself : (other : List ℕ) (batch : Batch) → due.channel ≡ 1 → batch.claims ≡ claims_in (due ∷ []) → batch.outputs ≡ output_for key (due ∷ []) ∷ [] → batch.preimages ≡ preimages_for (due ∷ [])
      → IsKeepOrRelease (other ∷ key ∷ []) (releases batch)
  pays_itself other batch c claims outputs preimages =
      (due, key, refl, subst (λ (n : ℕ). slice_get (other ∷ key ∷ []) n ≡ Some key) (sym c) refl, record { claims_is = claims; outputs_is = outputs; preimages_is = preimages })

  -- in a channel that the opening book has not
  in_no_channel : (batch : Batch) → due.channel ≡ 1 → IsKeepOrRelease (key ∷ []) (releases batch) → ⊥
  in_no_channel batch c (d, k, same, is, of) =
      let none : slice_get (key ∷ []) 1 ≡ Some k = subst (λ (n : ℕ). slice_get (key ∷ []) n ≡ Some k) c is in
      none-some k none

  -- two outputs
  to_two : (keys : List (List ℕ)) (batch : Batch) (o p : Output) → batch.outputs ≡ o ∷ p ∷ [] → IsKeepOrRelease keys (releases batch) → ⊥
  to_two keys batch o p two (d, k, same, is, of) =
      let many : 2 ≡ 1 = ap (λ (l : List Output). length l) (sym two ∙ of.outputs_is) in
      omega (arith, many)
