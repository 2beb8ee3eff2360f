-- The words at chosen values, and what the rule and the clauses exclude: an entry with a number that no seat has, and a reply that the book did not give.
use Rattle.std.proofs.Common.{◌≡◌, ◌≢◌, ℕ, zero, suc, ◌+◌, ◌<◌, ◌≤◌, arith, Bool, true, false, List, [], ◌∷◌, All, map, Option, Some, None, IfSome, Ok, Err, refl, sym, subst, ap, ◌∙◌, length, length-append, ⊎_elim, inl, inr, ne_eqb}
use Rattle.std.specs.List.{range_with_len, last_or, AllByRecursion}
use Rattle.std.proofs.lemmas.List.Elements.{All-head, All-tail}
use Rattle.crossbeam_channel.specs.Claims.{view}
use Rattle.channel.specs.Tokens.{peer_tokens}
use Rattle.book.specs.declared.calls.Entry.{Entry}
use Rattle.book.specs.declared.calls.Call.{Call}
use Rattle.book.specs.declared.calls.Call.TheVariants.{Sign, Close}
use Rattle.book.specs.declared.errors.SignError.TheVariants.{NoUpdates}
use Rattle.book.specs.Replies.{signed, closed, is_accepted, reply_of, extended}
use Rattle.desk.specs.declared.rule.Heard.{Heard}
use Rattle.desk.specs.declared.rule.SeatView.{SeatView}
use Rattle.desk.specs.declared.desk.Desk.{Desk}
use Rattle.desk.specs.declared.desk.Seat.{Seat}
use Rattle.desk.specs.Histories.{History, calls_of, first_seat}
use Rattle.desk.specs.Rule.{opened, last_view, joined, spent, At, Live, IsHeard, HasNoOthers, HasHeardAll, weight_of, seats_in, InQueue, IsOut, IsSeated}
use Rattle.desk.specs.Seats.{IsSeatOf, EndsWithLast, TakesIn, number_in, opening_in, heard_in, is_last_in}
use Rattle.desk.specs.Answers.{IsAnswered}
use Rattle.desk.proofs.Parts.{others_same}
use Rattle.desk.proofs.Keeps.{at_one}

-- the entry of a seat that signed in a channel
abbrev by : ℕ → ℕ → Entry
by seat channel = record { seat = seat; call = Sign channel }

numbers : (first_seat [] ≡ 0) × (first_seat (by 0 0 ∷ []) ≡ 1) × (first_seat (by 7 0 ∷ by 3 0 ∷ []) ≡ 8) × (first_seat (by 3 0 ∷ by 4294967295 0 ∷ []) ≡ 4294967296)
numbers = (refl, refl, refl, refl)

in_order : (calls_of 3 (by 3 0 ∷ by 7 1 ∷ by 3 2 ∷ []) ≡ by 3 0 ∷ by 3 2 ∷ []) × (calls_of 4 (by 3 0 ∷ by 7 1 ∷ []) ≡ [])
in_order = (refl, refl)

one_entry : (e : Entry) → e ∷ [] ≢ []
one_entry e same = cc

-- at a desk made with an empty history, whose one seat has number 0, there is no entry with number 3
no_stranger : (v : SeatView) → v ≡ opened [] → IsSeated ((by 3 0 ∷ []) ∷ []) (v ∷ []) → ⊥
no_stranger v is s = ⊎_elim
    (λ (q : InQueue ((by 3 0 ∷ []) ∷ []) (v ∷ []) s.history).
    let one = q.one in
    let here : by 3 0 ∷ [] ≡ s.history = cc in
    let made : [] ≡ s.opening = ap (λ (u : SeatView). u.opening) (sym is) ∙ s.made_with 0 v (refl, ap (λ (u : SeatView). u.is_spent) is) in
    one_entry (by 3 0) (ap (calls_of 3) here ∙ s.others 3 (λ p u at. (λ same. let n = ap (λ (w : SeatView). w.number) (sym is ∙ at_one p u v at.0) ∙ same in cc, subst (λ (w : SeatView). AllByRecursion (λ (h : Heard). h.number ≢ 3) w.heard) (sym is ∙ at_one p u v at.0) tt)) ∙ ap (calls_of 3) (sym made)))
    (λ (o : IsOut ((by 3 0 ∷ []) ∷ []) (v ∷ []) s.history). let e = o.empty in cc)
    s.place

-- ---- the seats that `new` gives are all that a desk has

-- one of the seats has each number of the range
missed : (first count n : ℕ) (seats : List Seat) → map number_in seats ≡ range_with_len first count → first ≤ n → n < first + count → All (λ s. number_in s ≢ n) seats → ⊥
missed first zero n seats e low high none = omega arith
missed first (suc count) n [] e low high none = cc
missed first (suc count) n (s ∷ seats) e low high none =
    let P : Seat → Type 0 = λ t. number_in t ≢ n in
    let here : number_in s ≡ first = cc in
    let rest : map number_in seats ≡ range_with_len (first + 1) count = cc in
    let not_here : number_in s ≢ n = All-head P s seats none in
    let later : first ≢ n = λ is. not_here (here ∙ is) in
    missed (first + 1) count n seats rest (omega arith) (omega arith) (All-tail P s seats none)

-- the last of the seats has the greatest number
last_of : (P : Seat → Type 0) (o : Option Seat) (first more : ℕ) (seats : List Seat) → map number_in seats ≡ range_with_len first (suc more) → All P seats → (s : Seat) × (last_or o seats ≡ Some s) × (number_in s ≡ first + more) × P s
last_of P o first more [] e all = let no : ⊥ = cc in absurd no
last_of P o first zero (s ∷ []) e all =
    let here : number_in s ≡ first = cc in (s, refl, omega arith, All-head P s [] all)
last_of P o first zero (s ∷ t ∷ seats) e all = let no : ⊥ = cc in absurd no
last_of P o first (suc more) (s ∷ []) e all = let no : ⊥ = cc in absurd no
last_of P o first (suc more) (s ∷ t ∷ seats) e all =
    let rest : map number_in (t ∷ seats) ≡ range_with_len (first + 1) (suc more) = cc in
    let r = last_of P (Some s) (first + 1) more (t ∷ seats) rest (All-tail P s (t ∷ seats) all) in
    let number : number_in r.0 ≡ first + 1 + more = r.2 in (r.0, r.1, omega arith, r.3)

-- What the clauses say of the seats from `new` on, and after each call, leaves room for no other: of a number that none of them has there are the entries
-- that the desk was made with.
no_other : (desk : Desk) (opening : History) (more : ℕ) (seats : List Seat) (items : List History) (views : List SeatView) (rule : IsSeated items views) → map number_in seats ≡ range_with_len (first_seat opening) (suc more) → EndsWithLast seats
    → All (λ s. IsSeatOf desk s × (opening_in s ≡ opening) × (p : ℕ) × At views p (view s.pass)) seats → (n : ℕ) → All (λ s. number_in s ≢ n) seats → calls_of n rule.history ≡ calls_of n opening
no_other desk opening more seats items views rule numbers ends all n none =
    let t = last_of (λ s. IsSeatOf desk s × (opening_in s ≡ opening) × (p : ℕ) × At views p (view s.pass)) None (first_seat opening) more seats numbers all in
    let s = t.0 in
    let p = t.3.2 in
    let at : Live views p (view s.pass) = (t.3.3, t.3.0.live) in
    let last : is_last_in s ≡ true = subst (λ o. IfSome o (λ u. is_last_in u ≡ true)) t.1 ends in
    let same : rule.opening ≡ opening = sym (rule.made_with p (view s.pass) at) ∙ t.3.1 in
    let mine : (view s.pass).number ≡ number_in s = t.3.0.number in
    let greatest : number_in s ≡ first_seat opening + more = t.2 in
    let first : first_seat rule.opening ≡ first_seat opening = ap first_seat same in
    let none_between : (m : ℕ) → first_seat rule.opening ≤ m → m ≤ (view s.pass).number → m ≢ n =
    λ m above below has. missed (first_seat opening) (suc more) n seats numbers (omega arith) (omega arith) none in
    rule.others n (λ q u there. (none_between u.number (rule.later q u there) (rule.greatest p q (view s.pass) u at last there), none_heard none_between u.heard (rule.heard q u there) (rule.heard_below p q (view s.pass) u at last there))) ∙ ap (calls_of n) same
  where
    none_heard : {high : ℕ} → ((m : ℕ) → first_seat rule.opening ≤ m → m ≤ high → m ≢ n) → (hs : List Heard) → AllByRecursion (IsHeard rule.opening rule.history) hs → AllByRecursion (λ h. h.number ≤ high) hs → AllByRecursion (λ h. h.number ≢ n) hs
    none_heard between [] all below = tt
    none_heard between (h ∷ hs) all below = (between h.number all.0.later below.0, none_heard between hs all.1 below.1)

-- if a call leaves a history empty, it was empty before
was_empty : (h : History) (call : Call) (b : Bool) → [] ≡ extended b h 0 call → h ≡ []
was_empty [] call b e = refl
was_empty (x ∷ h) call true e = cc
was_empty (x ∷ h) call false e = cc

-- a book without channels refuses to sign only for lack of the channel or of memory
not_invented : IsAnswered 0 [] [] (Sign 0) (signed (Err NoUpdates)) [] [] → ⊥
not_invented a = ⊎_elim
    (λ m. let e = m.0 in cc)
    (λ m. let e = m.0 ∙ ap (λ h. reply_of peer_tokens h (Sign 0)) (was_empty a.0 (Sign 0) (is_accepted (reply_of peer_tokens a.0 (Sign 0))) m.2) in cc)
    a.2

-- and it closes no channel
not_closed : IsAnswered 0 [] [] (Close 0) (closed (Ok 0)) [] [] → ⊥
not_closed a = ⊎_elim
    (λ m. let e = m.0 in cc)
    (λ m. let e = m.0 ∙ ap (λ h. reply_of peer_tokens h (Close 0)) (was_empty a.0 (Close 0) (is_accepted (reply_of peer_tokens a.0 (Close 0))) m.2) in cc)
    a.2

-- ---- seats that came home

-- a seat that came home, with these calls and what it last saw
abbrev home : ℕ → List Entry → History → Heard
home number calls last = record { number = number; calls = calls; last = last }

-- a seat counts for itself and for those that came home to it, and for none once it came home
seats : (weight_of (last_view 3 []) ≡ 1) × (weight_of (joined (last_view 3 []) (last_view 1 [])) ≡ 2) × (weight_of (joined (last_view 3 []) (joined (last_view 1 []) (last_view 2 []))) ≡ 3) × (weight_of spent ≡ 0)
    × (seats_in (joined (last_view 3 []) (last_view 1 []) ∷ spent ∷ last_view 2 [] ∷ []) ≡ 3)
seats = (refl, refl, refl, refl, refl)

-- the latest stand first
latest_first : (joined (joined (last_view 3 []) (last_view 1 [])) (joined (last_view 2 []) (last_view 0 []))).heard ≡ home 2 [] [] ∷ home 0 [] [] ∷ home 1 [] [] ∷ []
latest_first = refl

heard_one : IsHeard (by 2 0 ∷ []) (by 2 0 ∷ by 3 0 ∷ by 4 1 ∷ []) (home 3 (by 3 0 ∷ []) (by 2 0 ∷ by 3 0 ∷ []))
heard_one = record { calls = refl; since = (by 4 1 ∷ [], refl); later = omega arith }

-- the book has an entry of it that it did not make
heard_nothing : IsHeard [] (by 3 0 ∷ []) (home 3 [] []) → ⊥
heard_nothing h = one_entry (by 3 0) h.calls

-- the book lost what it saw
heard_more : IsHeard [] [] (home 3 [] (by 2 0 ∷ [])) → ⊥
heard_more h = let e = h.since.1 in cc

-- its number stands in the history that the desk was made with
heard_too_low : IsHeard (by 3 0 ∷ []) (by 3 0 ∷ []) (home 3 (by 3 0 ∷ []) []) → ⊥
heard_too_low h = let l = h.later in omega arith

-- two seats share a book, of which one came home
both_known : HasHeardAll 1 (home 0 (by 0 0 ∷ []) [] ∷ []) [] (by 0 0 ∷ by 1 1 ∷ [])
both_known n own theirs = rw (ne_eqb 0 n theirs.0, ne_eqb 1 n own) refl

-- and a third one would have signed
third_signed : HasHeardAll 1 (home 0 (by 0 0 ∷ []) [] ∷ []) [] (by 0 0 ∷ by 2 1 ∷ []) → ⊥
third_signed all = one_entry (by 2 1) (all 2 (λ is. let z : ⊥ = omega arith in z) ((λ is. let z : ⊥ = omega arith in z), tt))

-- numbers from the first of the desk, 5, to that of the last seat, 7
from_the_first : HasNoOthers 7 (by 4 0 ∷ []) (by 4 0 ∷ by 5 1 ∷ [])
from_the_first n out = others_same n (by 4 0 ∷ []) (by 5 1) (λ is. ⊎_elim (λ (above : 7 < n). let z : ⊥ = omega arith in z) (λ (below : n < 5). let z : ⊥ = omega arith in z) out)

to_the_last : HasNoOthers 7 (by 4 0 ∷ []) (by 4 0 ∷ by 7 1 ∷ [])
to_the_last n out = others_same n (by 4 0 ∷ []) (by 7 1) (λ is. ⊎_elim (λ (above : 7 < n). let z : ⊥ = omega arith in z) (λ (below : n < 5). let z : ⊥ = omega arith in z) out)

below_the_first : HasNoOthers 7 (by 4 0 ∷ []) (by 4 0 ∷ by 3 1 ∷ []) → ⊥
below_the_first none = one_entry (by 3 1) (none 3 (inr (omega arith)))

above_the_last : HasNoOthers 7 (by 4 0 ∷ []) (by 4 0 ∷ by 8 1 ∷ []) → ⊥
above_the_last none = one_entry (by 8 1) (none 8 (inl (omega arith)))

-- nobody came home
not_taken_in : (desk : Desk) (before other after : Seat) → heard_in after ≡ heard_in before → TakesIn desk before other after → ⊥
not_taken_in desk before other after same takes =
    let more = ap length (sym same ∙ takes.heard) in
    let long = length-append (heard_in other) (heard_in before) in
    omega (arith, more, long)
