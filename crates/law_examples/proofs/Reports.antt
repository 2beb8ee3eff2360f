-- What a node's report says: two books that go on from those of the scenario's world, and what was counted in each channel.
use Rattle.std.proofs.Common.{◌≡◌, ℕ, true, false, List, [], ◌∷◌, ◌++◌, map, length, sym, ap, ◌∙◌, refl, subst, arith, length-append}
use Rattle.std.proofs.lemmas.Bool.{false≢true}
use Rattle.std.proofs.lemmas.List.{length-map}
use Rattle.std.proofs.lemmas.List.Elements.{All-nil}
use Rattle.terms.specs.declared.sides.Side.TheVariants.{A, B}
use Rattle.terms.specs.declared.proposals.ProposedTerms.{ProposedTerms}
use Rattle.claim.specs.Claims.{ClaimParts, IsWhole}
use Rattle.channel.specs.Tokens.{peer_tokens}
use Rattle.scenario.specs.declared.events.Event.{Event}
use Rattle.scenario.specs.declared.events.Event.TheVariants as events
use Rattle.scenario.specs.declared.scenarios.Scenario.{Scenario}
use Rattle.book.specs.declared.calls.Call.TheVariants.{Sign, Keep}
use Rattle.book.specs.declared.calls.Entry.{Entry}
use Rattle.book.specs.Accepted.{all_accepted, AreWhole}
use Rattle.book.specs.Guarding.{is_guarded}
use Rattle.desk.specs.Histories.{History, GoesOn}
use Rattle.world.specs.Worlds.{World}
use Rattle.world.specs.Beginning.{empty_world, AllBegin, IsBeginning}
use Rattle.running.specs.declared.counts.Counts.{Counts}
use Rattle.running.specs.declared.runs.Report.{Report}
use Rattle.running.specs.Events.{all_turns}
use Rattle.running.specs.Playing.{ArePlayed, AreAllPlayed, IsFirstChannelThread, no_more}
use Rattle.running.specs.Reports.{IsLeft, total_of, IsRun, IsReport}

-- ---- a book that threads leave

module _ (x y : Entry) where
  -- yes: GoesOn
  one_entry_more : GoesOn (x ∷ []) (x ∷ y ∷ [])
  one_entry_more = (y ∷ [], refl)

  -- no: GoesOn
  one_entry_less : GoesOn (x ∷ y ∷ []) (x ∷ []) → ⊥
  one_entry_less (later, e) = let l = ap length e in omega (arith, l)

-- yes: AreWhole
kept_whole : (c : ClaimParts) → IsWhole c → AreWhole (record { seat = 4; call = Keep 2 5 (c ∷ []) } ∷ [])
kept_whole c w = ((w, tt), tt)

-- no: AreWhole
kept_broken : (c : ClaimParts) → (IsWhole c → ⊥) → AreWhole (record { seat = 4; call = Keep 2 5 (c ∷ []) } ∷ []) → ⊥
kept_broken c n a = n a.0.0

module _ (opening history : History) where
  -- yes: IsLeft
  left : (later : List Entry) → history ≡ opening ++ later → all_accepted peer_tokens history ≡ true → is_guarded history ≡ true → AreWhole history → IsLeft opening history
  left later e a g w = record { goes_on = (later, e); accepted = a; guarded = g; whole = w }

  -- no: IsLeft
  entry_lost : length opening ≡ 2 → length history ≡ 1 → IsLeft opening history → ⊥
  entry_lost e f l =
      let g = ap length l.goes_on.1 in
      let h = length-append opening l.goes_on.0 in
      omega (arith, e, f, g, h)

  -- no: IsLeft
  unguarded : is_guarded history ≡ false → IsLeft opening history → ⊥
  unguarded e l = false≢true (sym e ∙ l.guarded)

  -- no: IsLeft
  broken : (AreWhole history → ⊥) → IsLeft opening history → ⊥
  broken n l = n l.whole

-- no: IsLeft
signed_without_channel : IsLeft [] (record { seat = 0; call = Sign 0 } ∷ []) → ⊥
signed_without_channel l = false≢true l.accepted

-- ---- the channels that were played

-- yes: AreAllPlayed
no_channel : (h i : History) (es : List Event) → AreAllPlayed h i 0 es []
no_channel h i es = record { channel_threads = []; numbers = refl; first = All-nil (IsFirstChannelThread h i); each = no_more }

-- no: AreAllPlayed
channel_unplayed : (h i : History) (es : List Event) → AreAllPlayed h i 1 es [] → ⊥
channel_unplayed h i es a =
    let e : length a.channel_threads ≡ 1 = sym (length-map a.channel_threads _) ∙ ap length a.numbers in
    (elim a.channel_threads as (λ ls. length ls ≡ 1 → ArePlayed es ls [] → ⊥) [ [] ↦ λ n p. omega (arith, n) | l ∷ ls ↦ λ n p. elim p [ ] ]) e a.each

-- ---- a report

module _ (scenario : Scenario) (report : Report) where
  -- yes: IsReport.world, IsReport.begins
  begins_with_both : (p q : ProposedTerms) → scenario.channels ≡ p ∷ q ∷ [] → (r : IsReport scenario report) → AllBegin scenario.seeds 0 (p ∷ q ∷ []) empty_world r.world
  begins_with_both p q e r = subst (λ (ts : List ProposedTerms). AllBegin scenario.seeds 0 ts empty_world r.world) e r.begins

  -- yes: IsReport.run
  goes_on_from_a : (r : IsReport scenario report) → (later : List Entry) × (report.a ≡ r.world.a.history ++ later)
  goes_on_from_a r = r.run.a_left.goes_on

  -- yes: IsRun.b_left
  goes_on_from_b : (a b : History) (n : ℕ) (es : List Event) (r : IsRun a b n es report) → (later : List Entry) × (report.b ≡ b ++ later)
  goes_on_from_b a b n es r = r.b_left.goes_on

  -- yes: IsRun.played
  plays_both : (a b : History) (es : List Event) (r : IsRun a b 2 es report) → AreAllPlayed a b 2 es r.played_channels
  plays_both a b es r = r.played

  -- three turns in channel 1, one in channel 0; blocks and the turn of a channel that is not there are none
  -- yes: IsReport.counted
  counts_turns : length scenario.channels ≡ 2 → scenario.events ≡ events.Sign B 1 ∷ events.Deliver A 1 ∷ events.Blocks 4 ∷ events.Sign A 0 ∷ events.Close B 1 ∷ events.Sign A 2 ∷ [] → IsReport scenario report
      → map total_of report.channels.items ≡ 1 ∷ 3 ∷ []
  counts_turns e f r = rw (e, f) at r.counted

  -- yes: IsReport
  is_report : (w : World) → IsBeginning scenario.seeds scenario.channels w → IsRun w.a.history w.b.history (length scenario.channels) scenario.events report → map total_of report.channels.items ≡ all_turns (length scenario.channels) scenario.events → IsReport scenario report
  is_report w i r c = record { world = w; begins = i; run = r; counted = c }

  -- no: IsReport
  turn_uncounted : (k : Counts) → length scenario.channels ≡ 1 → scenario.events ≡ events.Sign B 0 ∷ [] → report.channels.items ≡ k ∷ [] → total_of k ≡ 0 → IsReport scenario report → ⊥
  turn_uncounted k e f g i r =
      let h : map total_of (k ∷ []) ≡ 1 ∷ [] = rw (e, f) at (subst (λ (ks : List Counts). map total_of ks ≡ all_turns (length scenario.channels) scenario.events) g r.counted) in
      let j : total_of k ≡ 1 = ap first_of h in
      omega (arith, i, j)
    where
      first_of : List ℕ → ℕ
      first_of [] = 0
      first_of (n ∷ ns) = n

  -- no: IsReport
  counts_lost : length scenario.channels ≡ 1 → report.channels.items ≡ [] → IsReport scenario report → ⊥
  counts_lost e f r =
      let g = ap length r.counted in
      let h : length (map total_of report.channels.items) ≡ 0 = ap (λ (ks : List Counts). length (map total_of ks)) f in
      let i : length (all_turns (length scenario.channels) scenario.events) ≡ 1 = ap (λ (n : ℕ). length (all_turns n scenario.events)) e in
      omega (arith, g, h, i)
