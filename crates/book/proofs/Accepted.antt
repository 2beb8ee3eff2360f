-- Histories of accepted calls are those that calls lead to.
use Rattle.std.proofs.Common.{◌≡◌, ◌↔◌, ◌<◌, ℕ, suc, ◌&&◌, if◌then◌else◌, Bool, true, false, true≢false, List, [], ◌∷◌, ◌++◌, length, reverse, take, Option, Some, None, option_map, refl, sym, ap, ◌∙◌, subst, arith}
use Rattle.std.proofs.lemmas.Bool.{and_parts, and_from, and_left}
use Rattle.std.proofs.lemmas.List.{append-nil, append_assoc, reverse-append, reverse-reverse}
use Rattle.std.proofs.lemmas.Option.{none-some, same_Some}
use Rattle.channel.specs.States.{Signing}
use Rattle.book.specs.declared.calls.Call.{Call}
use Rattle.book.specs.declared.calls.Entry.{Entry}
use Rattle.book.specs.Books.{replayed}
use Rattle.book.specs.Replies.{is_accepted, answer_of, extended, history_after}
use Rattle.book.specs.Accepted.{is_taken, are_accepted, all_accepted, first_refused_after, first_refused, IsHistory, begins, adds_call, AcceptedMeans}

-- a history with one more entry
pub one_more : (tokens_of : Signing) (history : List Entry) (e : Entry) → all_accepted tokens_of (history ++ e ∷ []) ≡ (is_taken tokens_of (reverse history) e && all_accepted tokens_of history)
one_more tokens_of history e = ap (are_accepted tokens_of) (reverse-append history (e ∷ []))

-- a call turns a history of accepted calls into another one
pub all_accepted_after : (tokens_of : Signing) (history : List Entry) (seat : ℕ) (call : Call) → all_accepted tokens_of history ≡ true → all_accepted tokens_of (history_after tokens_of history seat call) ≡ true
all_accepted_after tokens_of history seat call ok = by (is_accepted (answer_of tokens_of (replayed (reverse history)) call)) refl
  where
    by : (t : Bool) → is_accepted (answer_of tokens_of (replayed (reverse history)) call) ≡ t → all_accepted tokens_of (extended t history seat call) ≡ true
    by true e = one_more tokens_of history (record { seat = seat; call = call }) ∙ and_from _ _ e ok
    by false e = ok

accepted : (tokens_of : Signing) (history : List Entry) → IsHistory tokens_of history → all_accepted tokens_of history ≡ true
accepted tokens_of _ begins = refl
accepted tokens_of _ (adds_call {history} seat call before) = all_accepted_after tokens_of history seat call (accepted tokens_of history before)

-- accepted entries, which have the newest first, are a history
reached : (tokens_of : Signing) (es : List Entry) → are_accepted tokens_of es ≡ true → IsHistory tokens_of (reverse es)
reached tokens_of [] ok = begins
reached tokens_of (e ∷ es) ok = subst (IsHistory tokens_of) (grown (is_accepted (answer_of tokens_of (replayed (reverse (reverse es))) e.call)) taken) (adds_call e.seat e.call (reached tokens_of es parts.1))
  where
    parts : (is_taken tokens_of es e ≡ true) × (are_accepted tokens_of es ≡ true)
    parts = and_parts (is_taken tokens_of es e) (are_accepted tokens_of es) ok

    taken : is_accepted (answer_of tokens_of (replayed (reverse (reverse es))) e.call) ≡ true
    taken = ap (λ xs. is_taken tokens_of xs e) (reverse-reverse es) ∙ parts.0

    grown : (t : Bool) → t ≡ true → extended t (reverse es) e.seat e.call ≡ reverse (e ∷ es)
    grown true h = sym (reverse-append (e ∷ []) es)
    grown false h = absurd (true≢false (sym h))

-- ---- the first entry that is refused

-- reversing entries puts the newest one next to those before
pub onto : (e : Entry) (es before : List Entry) → reverse (e ∷ es) ++ before ≡ reverse es ++ (e ∷ before)
onto e es before = ap (λ xs. xs ++ before) (reverse-append (e ∷ []) es) ∙ append_assoc (reverse es) (e ∷ []) before

pub earlier : (tokens_of : Signing) (xs before : List Entry) → are_accepted tokens_of (xs ++ before) ≡ true → are_accepted tokens_of before ≡ true
earlier tokens_of [] before ok = ok
earlier tokens_of (x ∷ xs) before ok = earlier tokens_of xs before (and_parts (is_taken tokens_of (xs ++ before) x) (are_accepted tokens_of (xs ++ before)) ok).1

no_successor : (o : Option ℕ) → option_map suc o ≡ None → o ≡ None
no_successor None e = refl
no_successor (Some i) e = absurd (none-some (suc i) (sym e))

-- no entry is refused exactly if all are accepted
all_pass : (tokens_of : Signing) (before es : List Entry) → are_accepted tokens_of (reverse es ++ before) ≡ true → first_refused_after tokens_of before es ≡ None
all_pass tokens_of before [] ok = refl
all_pass tokens_of before (e ∷ es) ok = rw (taken) (ap (option_map suc) (all_pass tokens_of (e ∷ before) es further))
  where
    further : are_accepted tokens_of (reverse es ++ (e ∷ before)) ≡ true
    further = ap (are_accepted tokens_of) (sym (onto e es before)) ∙ ok

    taken : is_taken tokens_of before e ≡ true
    taken = (and_parts _ _ (earlier tokens_of (reverse es) (e ∷ before) further)).0

none_stops : (tokens_of : Signing) (before es : List Entry) → are_accepted tokens_of before ≡ true → first_refused_after tokens_of before es ≡ None → are_accepted tokens_of (reverse es ++ before) ≡ true
none_stops tokens_of before [] ok none = ok
none_stops tokens_of before (e ∷ es) ok none = by (is_taken tokens_of before e) refl none (none_stops tokens_of (e ∷ before) es)
  where
    by : (t : Bool) → is_taken tokens_of before e ≡ t → (if t then option_map suc (first_refused_after tokens_of (e ∷ before) es) else Some 0) ≡ None
        → (are_accepted tokens_of (e ∷ before) ≡ true → first_refused_after tokens_of (e ∷ before) es ≡ None → are_accepted tokens_of (reverse es ++ (e ∷ before)) ≡ true)
        → are_accepted tokens_of (reverse (e ∷ es) ++ before) ≡ true
    by true taken rest on = ap (are_accepted tokens_of) (onto e es before) ∙ on (and_from _ _ taken ok) (no_successor _ rest)
    by false taken rest on = absurd (none-some 0 (sym rest))

-- the entries before index i are accepted, and the one at i is not
record StopsAt (tokens_of : Signing) (before es : List Entry) (i : ℕ) : Type 0 where
  passed : are_accepted tokens_of (reverse (take i es) ++ before) ≡ true
  inside : i < length es
  stopped : are_accepted tokens_of (reverse (take (suc i) es) ++ before) ≡ false

later : {tokens_of : Signing} {before es : List Entry} {i : ℕ} (e : Entry) → StopsAt tokens_of (e ∷ before) es i → StopsAt tokens_of before (e ∷ es) (suc i)
later {tokens_of} {before} {es} {i} e s = record {
  passed = ap (are_accepted tokens_of) (onto e (take i es) before) ∙ s.passed;
  inside = let h = s.inside in omega arith;
  stopped = ap (are_accepted tokens_of) (onto e (take (suc i) es) before) ∙ s.stopped;
}

is_successor : (P : ℕ → Type 0) (o : Option ℕ) (i : ℕ) → option_map suc o ≡ Some i → ((j : ℕ) → o ≡ Some j → P (suc j)) → P i
is_successor P None i e go = absurd (none-some i e)
is_successor P (Some j) i e go = subst P (same_Some (suc j) i e) (go j refl)

stops_at : (tokens_of : Signing) (before es : List Entry) (i : ℕ) → are_accepted tokens_of before ≡ true → first_refused_after tokens_of before es ≡ Some i → StopsAt tokens_of before es i
stops_at tokens_of before [] i ok e = absurd (none-some i e)
stops_at tokens_of before (e ∷ es) i ok at = by (is_taken tokens_of before e) refl at (stops_at tokens_of (e ∷ before) es)
  where
    by : (t : Bool) → is_taken tokens_of before e ≡ t → (if t then option_map suc (first_refused_after tokens_of (e ∷ before) es) else Some 0) ≡ Some i
        → ((j : ℕ) → are_accepted tokens_of (e ∷ before) ≡ true → first_refused_after tokens_of (e ∷ before) es ≡ Some j → StopsAt tokens_of (e ∷ before) es j)
        → StopsAt tokens_of before (e ∷ es) i
    by true taken rest on = is_successor (StopsAt tokens_of before (e ∷ es)) _ i rest (λ j found. later e (on j (and_from _ _ taken ok) found))
    by false taken rest on = subst (StopsAt tokens_of before (e ∷ es)) (same_Some 0 i rest) (record { passed = ok; inside = omega arith; stopped = and_left _ _ taken })

-- the same of whole histories
none_refused : (tokens_of : Signing) (history : List Entry) → (first_refused tokens_of history ≡ None) ↔ (all_accepted tokens_of history ≡ true)
none_refused tokens_of history = (
  λ none. ap (are_accepted tokens_of) (sym (append-nil (reverse history))) ∙ none_stops tokens_of [] history refl none,
  λ ok. all_pass tokens_of [] history (ap (are_accepted tokens_of) (append-nil (reverse history)) ∙ ok),
)

refused : (tokens_of : Signing) (history : List Entry) (i : ℕ) → first_refused tokens_of history ≡ Some i
    → (all_accepted tokens_of (take i history) ≡ true) × (i < length history) × (all_accepted tokens_of (take (suc i) history) ≡ false)
refused tokens_of history i at =
    let s = stops_at tokens_of [] history i refl at in
    (ap (are_accepted tokens_of) (sym (append-nil (reverse (take i history)))) ∙ s.passed, s.inside, ap (are_accepted tokens_of) (sym (append-nil (reverse (take (suc i) history)))) ∙ s.stopped)

pub accepted_means : AcceptedMeans
accepted_means = record {
  accepted_exactly = λ tokens_of history. (accepted tokens_of history, λ ok. subst (IsHistory tokens_of) (reverse-reverse history) (reached tokens_of (reverse history) ok));
  none_refused = none_refused;
  refused = refused;
}
