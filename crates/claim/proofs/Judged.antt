-- What a claim's path has, by how it was judged.
use Rattle.std.proofs.Common.{◌≡◌, ℕ, ◌<◌, ◌≤◌, Bool, true, false, List, [], ◌∷◌, length, get_or, Option, Some, None, sym, ap, subst, ◌∙◌, refl, arith}
use Rattle.std.specs.Prelude.{slice_get, IsTrue, if◌then◌else◌, nat_lt, unwrap_or, option_map, Result, Ok, Err, is_ok, All, MatchResult}
use Rattle.tx.specs.Fields.{Transaction}
use Rattle.tx.specs.declared.input.TxIn.{TxIn}
use Rattle.std.proofs.lemmas.Bool.{ltb-true, false≢true}
use Rattle.std.proofs.lemmas.Option.{same_Some, get_or_from_slice_get, slice_get_within, slice_get_read, slice_get_past}
use Rattle.script.specs.Spelling.{spelling, Spells}
use Rattle.script.specs.Run.{Clean, outcome}
use Rattle.sighash.specs.Programs.{spend_of}
use Rattle.facts.specs.Symbols.{Fact}
use Rattle.facts.specs.declared.symbols.FactOver.TheVariants.{Lock}
use Rattle.facts.specs.Symbols.{Stated}
use Rattle.paths.specs.declared.state.Path.{Path}
use Rattle.paths.specs.Listing.{CheckedScript, listing, greater, with_lock, greatest_lock_in}
use Rattle.paths.specs.Sound.{IsSound}
use Rattle.claim.specs.declared.parts.Slot.{Slot}
use Rattle.claim.specs.declared.parts.Place.{Place}
use Rattle.claim.specs.declared.parts.Shell.{Shell}
use Rattle.claim.specs.declared.parts.Shell.TheVariants.{Open, Fixed}
use Rattle.claim.specs.declared.errors.AcceptError.{AcceptError}
use Rattle.claim.specs.declared.errors.AcceptError.TheVariants.{NoSuchPath}
use Rattle.claim.specs.Evidence.{evidence_of}
use Rattle.claim.specs.Fitting.{IsRefusal, StandsRound, Spends}
use Rattle.claim.proofs.Locks.{age-small}
use Rattle.claim.specs.Judgement.{has_polarity, is_met, first_unmet_or, judgement_of_path, judgement_of, height_of, age_of, is_shell, known_digest, needed_height}
use Rattle.claim.specs.Claims.{ClaimParts, IsAccepted, IsBare, TakesPath, path_of, sequence_of, lock_time_of, FitsClaim, IsWhole}
use Rattle.claim.specs.Laws.{IsTimed}
use Rattle.claim.proofs.Shells.{fixed_of, round_of}
use Rattle.claim.proofs.Meeting.{met_by, judgement_of-ok, judgement_of-opens, sound-at}

pub judgement_of-some : (ways : CheckedScript) (index : ℕ) (slots : List Slot) (place : Place) (shell : Shell) (p : Path) → slice_get ways.paths index ≡ Some p → judgement_of ways index slots place shell ≡ judgement_of_path (spelling ways.ops) slots place shell p
unfolding judgement_of
judgement_of-some ways index slots place shell p e = rw e refl

pub judgement_of-none : (ways : CheckedScript) (index : ℕ) (slots : List Slot) (place : Place) (shell : Shell) → slice_get ways.paths index ≡ None → judgement_of ways index slots place shell ≡ Err NoSuchPath
unfolding judgement_of
judgement_of-none ways index slots place shell e = rw e refl

ok-path : (r : Result Path AcceptError) → is_ok r ≡ true → (p : Path) × (r ≡ Ok p)
ok-path (Ok p) e = (p, refl)
ok-path (Err c) e = absurd (false≢true e)

pub accepted-within : (ways : CheckedScript) (index : ℕ) (slots : List Slot) (place : Place) (shell : Shell) → is_ok (judgement_of ways index slots place shell) ≡ true → index < length ways.paths
accepted-within ways index slots place shell e =
    let o = ok-path (judgement_of ways index slots place shell) e in
    slice_get_within ways.paths index o.0 (judgement_of-ok ways index slots place shell o.0 o.1).at

-- the path at the index is the one that was judged
pub taken-here : (ways : CheckedScript) (index : ℕ) (slots : List Slot) (place : Place) (shell : Shell) (p : Path) → slice_get ways.paths index ≡ Some p → is_ok (judgement_of ways index slots place shell) ≡ true
    → judgement_of ways index slots place shell ≡ Ok p
taken-here ways index slots place shell p at e =
    let o = ok-path (judgement_of ways index slots place shell) e in
    let here : slice_get ways.paths index ≡ Some o.0 = (judgement_of-ok ways index slots place shell o.0 o.1).at in
    let same : p ≡ o.0 = same_Some p o.0 (sym at ∙ here) in
    o.1 ∙ ap Ok (sym same)

-- a claim takes one path
pub one-path : (r : Result Path AcceptError) (p q : Path) → r ≡ Ok p → r ≡ Ok q → p ≡ q
one-path r p q e g = cc

-- where the paths were read
pub path-within : (ways : CheckedScript) (index : ℕ) (slots : List Slot) (place : Place) (shell : Shell) (ps : List Path) → ps ≡ ways.paths → is_ok (judgement_of ways index slots place shell) ≡ true → index < length ps
path-within ways index slots place shell ps e a = subst (λ l. index < length l) (sym e) (accepted-within ways index slots place shell a)

pub path-here : (ways : CheckedScript) (index : ℕ) (slots : List Slot) (place : Place) (shell : Shell) (ps : List Path) (d : Path) → ps ≡ ways.paths → d ≡ get_or ps index d → is_ok (judgement_of ways index slots place shell) ≡ true → judgement_of ways index slots place shell ≡ Ok d
path-here ways index slots place shell ps d e g a =
    let o = ok-path (judgement_of ways index slots place shell) a in
    let at : slice_get ways.paths index ≡ Some o.0 = (judgement_of-ok ways index slots place shell o.0 o.1).at in
    let same : d ≡ o.0 = g ∙ ap (λ l. get_or l index d) e ∙ get_or_from_slice_get ways.paths index o.0 d at in
    o.1 ∙ ap Ok (sym same)

pub path-got : (ways : CheckedScript) (ps : List Path) (i : ℕ) (p : Path) → ps ≡ ways.paths → i < length ps → p ≡ get_or ps i p → slice_get ways.paths i ≡ Some p
path-got ways ps i p e h g = ap (λ l. slice_get l i) (sym e) ∙ slice_get_read ps (length ps) i p refl h g

pub path-none : (ways : CheckedScript) (ps : List Path) (i : ℕ) → ps ≡ ways.paths → length ps ≤ i → slice_get ways.paths i ≡ None
path-none ways ps i e h = ap (λ l. slice_get l i) (sym e) ∙ slice_get_past ps i h

judgement_of-same : (ways : CheckedScript) (index : ℕ) (slots : List Slot) (place : Place) (shell : Shell) (p : Path) (script : List ℕ) → slice_get ways.paths index ≡ Some p → spelling ways.ops ≡ script → judgement_of ways index slots place shell ≡ judgement_of_path script slots place shell p
judgement_of-same ways index slots place shell p script at e =
    judgement_of-some ways index slots place shell p at ∙ ap (λ s. judgement_of_path s slots place shell p) e

pub judgement_of-from : {A : Type 0} (ways : CheckedScript) (index : ℕ) (slots : List Slot) (place : Place) (shell : Shell) (p : Path) (script : List ℕ) (r : Result A AcceptError) → slice_get ways.paths index ≡ Some p → spelling ways.ops ≡ script → MatchResult r (λ x. judgement_of_path script slots place shell p ≡ Ok p) (IsRefusal (judgement_of_path script slots place shell p)) → MatchResult r (λ x. IsTrue (is_ok (judgement_of ways index slots place shell))) (IsRefusal (judgement_of ways index slots place shell))
judgement_of-from ways index slots place shell p script (Ok x) at e h = ap is_ok (judgement_of-same ways index slots place shell p script at e ∙ h)
judgement_of-from ways index slots place shell p script (Err c) at e h = subst (λ j. IsRefusal j c) (sym (judgement_of-same ways index slots place shell p script at e)) h

pub accepted-opens : (ways : CheckedScript) (index : ℕ) (slots : List Slot) (place : Place) (shell : Shell) (bytes : List ℕ) → Spells ways.ops bytes → length bytes ≤ 10000 → All (IsSound ways.ops) ways.paths → (p : Path) → judgement_of ways index slots place shell ≡ Ok p → Spends ways.ops p slots place shell
accepted-opens ways index slots place shell bytes spells short all p e = judgement_of-opens ways index slots place shell p spells.each (subst (λ b. length b ≤ 10000) (sym spells.same) short) all e

pub accepted-sound : (ways : CheckedScript) (index : ℕ) (slots : List Slot) (place : Place) (shell : Shell) (p : Path) → All (IsSound ways.ops) ways.paths → judgement_of ways index slots place shell ≡ Ok p → IsSound ways.ops p
accepted-sound ways index slots place shell p all e = sound-at ways.ops ways.paths index p all (judgement_of-ok ways index slots place shell p e).at

-- the locks that are shown are heights
low_by : (n : ℕ) (h b : Bool) → has_polarity h (if b then Some true else None) ≡ true → b ≡ true
low_by n h true e = refl
low_by n h false e = e

greater-low : (n : ℕ) (o : Option ℕ) → n < 500000000 → unwrap_or o 0 < 500000000 → unwrap_or (greater o n) 0 < 500000000
greater-low n None h e = h
greater-low n (Some m) h e = omega arith

fact-low : (known : Option (List ℕ)) (slots : List Slot) (h : Bool) (fact : Fact) (o : Option ℕ) → has_polarity h (evidence_of known slots fact) ≡ true → unwrap_or o 0 < 500000000 → unwrap_or (with_lock fact o) 0 < 500000000
fact-low known slots h (Lock n) o e l = greater-low n o (ltb-true n 500000000 (low_by n h (nat_lt n 500000000) e)) l
fact-low known slots h fact o e l = l

met-low : (known : Option (List ℕ)) (slots : List Slot) (facts : List Stated) (p q : Path) → first_unmet_or known slots facts p ≡ Ok q → unwrap_or (greatest_lock_in facts) 0 < 500000000
met-low known slots [] p q e = omega arith
met-low known slots (s ∷ facts) p q e =
    let w = met_by (is_met known slots s) s (first_unmet_or known slots facts p) q e in
    fact-low known slots s.holds s.fact (greatest_lock_in facts) w.0 (met-low known slots facts p q w.1)

pub accepted-low : (ways : CheckedScript) (index : ℕ) (slots : List Slot) (place : Place) (shell : Shell) (p : Path) → IsSound ways.ops p → judgement_of ways index slots place shell ≡ Ok p → height_of p < 500000000
accepted-low ways index slots place shell p s e =
    let j = judgement_of-ok ways index slots place shell p e in
    subst (λ o. unwrap_or o 0 < 500000000) (sym s.lock) (met-low (known_digest (spelling ways.ops) place shell) slots p.facts p p j.met)

needed-low_by : (p : Path) (place : Place) (shell : Shell) → height_of p < 500000000 → is_shell p place shell ≡ true → needed_height p shell < 500000000
needed-low_by p place Open h e = h
needed-low_by p place (Fixed t) h e = (fixed_of p place t e).height

-- the lock time that a claim needs is a height
pub needed-low : (ways : CheckedScript) (index : ℕ) (slots : List Slot) (place : Place) (shell : Shell) (p : Path) → IsSound ways.ops p → judgement_of ways index slots place shell ≡ Ok p → needed_height p shell < 500000000
needed-low ways index slots place shell p s e =
    needed-low_by p place shell (accepted-low ways index slots place shell p s e) (judgement_of-ok ways index slots place shell p e).stands

-- a claim that takes a path has it at its index, and its shell stands round it
pub taken-at : (c : ClaimParts) (p : Path) → TakesPath c p → path_of c ≡ Some p
taken-at c p e = (judgement_of-ok c.ways c.index c.slots c.place c.shell p e).at

pub taken-shell : (c : ClaimParts) (p : Path) → TakesPath c p → is_shell p c.place c.shell ≡ true
taken-shell c p e = (judgement_of-ok c.ways c.index c.slots c.place c.shell p e).stands

-- what every claim is
pub whole-spelt : (c : ClaimParts) (bytes : List ℕ) → Spells c.ways.ops bytes → length bytes ≤ 10000 → listing c.ways.ops ≡ Ok c.ways.paths → IsAccepted c → IsBare c.shell → IsWhole c
whole-spelt c bytes spells short l a b = record { ops = spells.each; short = subst (λ s. length s ≤ 10000) (sym spells.same) short; listed = l; accepted = a; bare = sym b }

-- a transaction that stands round a claim has at least the lock time that the claim needs
needed-reached : (p : Path) (shell : Shell) (t : Transaction) → StandsRound p shell t → needed_height p shell ≤ t.lock_time
needed-reached p Open t s = s.1
needed-reached p (Fixed u) t s = let same = ap (λ w. w.lock_time) s in omega arith

-- whatever fits an accepted claim has its lock time and its age
pub fits-timed : (c : ClaimParts) (t : Transaction) (input : TxIn) → All (IsSound c.ways.ops) c.ways.paths → FitsClaim c t input → IsTimed c t input
fits-timed c t input all f =
    let p = f.path in
    let at = taken-at c p f.taken in
    let same : sequence_of c ≡ age_of p = ap (λ o. unwrap_or (option_map age_of o) 0) at in
    let lock : lock_time_of c ≡ needed_height p c.shell = ap (λ o. unwrap_or (option_map (λ q. needed_height q c.shell) o) 0) at in
    let s = accepted-sound c.ways c.index c.slots c.place c.shell p all f.taken in
    let r = round_of p c.place c.shell (spelling c.ways.ops) t input (taken-shell c p f.taken) f.fits.among f.fits.stands in
    record {
      version = r.version;
      sequence = f.fits.sequence ∙ sym same;
      age = subst (λ n. n < 65536) (sym (same ∙ ap (λ o. unwrap_or o 0) s.age)) (age-small p.facts);
      reached = subst (λ n. n ≤ t.lock_time) (sym lock) (needed-reached p c.shell t f.fits.stands);
      height = r.height;
    }

-- the script of an accepted claim runs clean on the items of what fits it
pub fits-clean : (c : ClaimParts) (t : Transaction) (input : TxIn) → IsWhole c → All (IsSound c.ways.ops) c.ways.paths → (f : FitsClaim c t input)
    → outcome (spend_of t input (spelling c.ways.ops) c.place.value) c.ways.ops f.fits.items ≡ Clean f.path.ops f.path.height
fits-clean c t input w all f =
    let opens = judgement_of-opens c.ways c.index c.slots c.place c.shell f.path w.ops w.short all f.taken in
    let s = accepted-sound c.ways c.index c.slots c.place c.shell f.path all f.taken in
    s.clean (spend_of t input (spelling c.ways.ops) c.place.value) f.fits.items (opens.meets t input f.fits)
