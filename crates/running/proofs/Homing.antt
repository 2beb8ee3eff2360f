-- Seats that come home, and what the book then has of each.
use Rattle.std.proofs.Common.{◌≡◌, ◌≢◌, ℕ, ◌+◌, ◌≤◌, true, List, [], ◌∷◌, ◌++◌, length, All, refl, sym, ap, ◌∙◌, subst, arith}
use native.Mathlib.Decide.{ℕ_discrete}
use mathlib.Core.Logic.{dite}
use Rattle.std.specs.List.{AllByRecursion}
use Rattle.std.proofs.lemmas.List.Elements.{All-nil, All-cons, All-head, All-tail}
use Rattle.crossbeam_channel.specs.Claims.{view}
use Rattle.desk.specs.declared.rule.Heard.{Heard}
use Rattle.desk.specs.declared.desk.Desk.{Desk}
use Rattle.desk.specs.declared.desk.Seat.{Seat}
use Rattle.desk.specs.Histories.{History, calls_of, first_seat}
use Rattle.desk.specs.Rule.{heard_of, IsHeard, HasHeardAll}
use Rattle.desk.specs.Seats.{IsSeatOf, TakesIn, number_in, calls_in, opening_in, heard_in, is_last_in}
use Rattle.desk.proofs.Parts.{none_from}
use Rattle.running.specs.Threads.{IsLone}
use Rattle.running.specs.Homes.{heard_with, TakesEach, IsHome, IsNoSeats, IsClosedBy, AreHome}

-- ---- seats come home one after the other

heard_with_both : (xs ys : List Seat) (hs : List Heard) → heard_with (xs ++ ys) hs ≡ heard_with ys (heard_with xs hs)
heard_with_both [] ys hs = refl
heard_with_both (x ∷ xs) ys hs = heard_with_both xs ys (heard_of (view x.pass) ∷ heard_in x ++ hs)

-- these come home after those
pub takes_both : (desk : Desk) (r s t : Seat) (xs ys : List Seat) → TakesEach desk r xs s → TakesEach desk s ys t → TakesEach desk r (xs ++ ys) t
takes_both desk r s t xs ys one two = record {
  seat_of = two.seat_of;
  number = two.number ∙ one.number;
  opening = two.opening ∙ one.opening;
  place = two.place ∙ one.place;
  calls = two.calls ∙ one.calls;
  heard = two.heard ∙ ap (heard_with ys) one.heard ∙ sym (heard_with_both xs ys (heard_in r));
}

-- all of these are to come home to a seat, of which the rest is left
pub record Taking (desk : Desk) (before : Seat) (all rest : List Seat) (now : Seat) : Type 0 where
  pub seat_of : IsSeatOf desk now
  pub number : number_in now ≡ number_in before
  pub opening : opening_in now ≡ opening_in before
  pub place : is_last_in now ≡ is_last_in before
  pub calls : calls_in now ≡ calls_in before
  pub heard : heard_with rest (heard_in now) ≡ heard_with all (heard_in before)

pub taking_first : (desk : Desk) (s : Seat) (all : List Seat) → IsSeatOf desk s → Taking desk s all all s
taking_first desk s all is = record { seat_of = is; number = refl; opening = refl; place = refl; calls = refl; heard = refl }

pub taking_next : (desk : Desk) (r s t x : Seat) (all rest left : List Seat) → rest ≡ x ∷ left → Taking desk r all rest s → TakesIn desk s x t → Taking desk r all left t
taking_next desk r s t x all rest left one was takes = record {
  seat_of = takes.seat_of;
  number = takes.number ∙ was.number;
  opening = takes.opening ∙ was.opening;
  place = takes.place ∙ was.place;
  calls = takes.calls ∙ was.calls;
  heard = ap (heard_with left) takes.heard ∙ ap (λ (l : List Seat). heard_with l (heard_in s)) (sym one) ∙ was.heard;
}

pub taking_done : (desk : Desk) (r s : Seat) (all rest : List Seat) → rest ≡ [] → Taking desk r all rest s → TakesEach desk r all s
taking_done desk r s all rest none was = record {
  seat_of = was.seat_of;
  number = was.number;
  opening = was.opening;
  place = was.place;
  calls = was.calls;
  heard = ap (λ (l : List Seat). heard_with l (heard_in s)) (sym none) ∙ was.heard;
}

-- one comes home
pub takes_one : (desk : Desk) (r s x : Seat) → TakesIn desk r x s → TakesEach desk r (x ∷ []) s
takes_one desk r s x takes = record { seat_of = takes.seat_of; number = takes.number; opening = takes.opening; place = takes.place; calls = takes.calls; heard = takes.heard }

-- ---- what was heard

later_ones : (P : Heard → Type 0) (xs ys : List Heard) → AllByRecursion P (xs ++ ys) → AllByRecursion P ys
later_ones P [] ys all = all
later_ones P (x ∷ xs) ys all = later_ones P xs ys all.1

heard_before : (P : Heard → Type 0) (seats : List Seat) (hs : List Heard) → AllByRecursion P (heard_with seats hs) → AllByRecursion P hs
heard_before P [] hs all = all
heard_before P (s ∷ seats) hs all = later_ones P (heard_in s) hs (heard_before P seats (heard_of (view s.pass) ∷ heard_in s ++ hs) all).1

is_home : (opening book : History) (desk : Desk) (s : Seat) → IsLone desk s → IsHeard opening book (heard_of (view s.pass)) → IsHome opening book s
is_home opening book desk s lone is = record {
  calls = ap (λ n. calls_of n book) (sym lone.seat_of.number) ∙ is.calls;
  since = is.since;
  later = subst (λ n. first_seat opening ≤ n) lone.seat_of.number is.later;
}

all_at_home : (opening book : History) (desk : Desk) (seats : List Seat) (hs : List Heard) → All (IsLone desk) seats → AllByRecursion (IsHeard opening book) (heard_with seats hs) → All (IsHome opening book) seats
all_at_home opening book desk [] hs lone all = All-nil (IsHome opening book)
all_at_home opening book desk (s ∷ seats) hs lone all =
    let base = heard_before (IsHeard opening book) seats (heard_of (view s.pass) ∷ heard_in s ++ hs) all in
    All-cons (IsHome opening book) s seats (is_home opening book desk s (All-head (IsLone desk) s seats lone) base.0)
    (all_at_home opening book desk seats (heard_of (view s.pass) ∷ heard_in s ++ hs) (All-tail (IsLone desk) s seats lone) all)

heard_many : (desk : Desk) (seats : List Seat) (hs : List Heard) → All (IsLone desk) seats → length (heard_with seats hs) ≡ length seats + length hs
heard_many desk [] hs lone = omega arith
heard_many desk (s ∷ seats) hs lone =
    let rest = heard_many desk seats (heard_of (view s.pass) ∷ heard_in s ++ hs) (All-tail (IsLone desk) s seats lone) in
    let none : length (heard_in s ++ hs) ≡ length hs = ap (λ (l : List Heard). length (l ++ hs)) (All-head (IsLone desk) s seats lone).heard in
    omega (arith, rest, none)

heard_apart : (desk : Desk) (n : ℕ) (seats : List Seat) (hs : List Heard) → All (IsLone desk) seats → IsNoSeats n seats → AllByRecursion (λ (h : Heard). h.number ≢ n) hs
    → AllByRecursion (λ (h : Heard). h.number ≢ n) (heard_with seats hs)
heard_apart desk n [] hs lone none all = all
heard_apart desk n (s ∷ seats) hs lone none all =
    let own = All-head (IsLone desk) s seats lone in
    heard_apart desk n seats (heard_of (view s.pass) ∷ heard_in s ++ hs) (All-tail (IsLone desk) s seats lone) (All-tail (λ (x : Seat). number_in x ≢ n) s seats none)
    ((λ is. All-head (λ (x : Seat). number_in x ≢ n) s seats none (sym own.seat_of.number ∙ is)), subst (λ (l : List Heard). AllByRecursion (λ (h : Heard). h.number ≢ n) (l ++ hs)) (sym own.heard) all)

-- ---- the book that is left

-- where a desk's last seat, which made no call, closes it, and as many seats came home to it as have a lower number
pub are_home : (desk : Desk) (closing_seat after : Seat) (seats : List Seat) (book : History) → calls_in closing_seat ≡ [] → heard_in closing_seat ≡ [] → is_last_in closing_seat ≡ true
    → number_in closing_seat ≡ first_seat (opening_in closing_seat) + length seats → All (IsLone desk) seats → TakesEach desk closing_seat seats after → IsClosedBy after book → AreHome (opening_in closing_seat) book seats
are_home desk closing_seat after seats book idle alone last top lone takes closed =
    let opening = opening_in closing_seat in
    let heard : heard_in after ≡ heard_with seats [] = takes.heard ∙ ap (heard_with seats) alone in
    let many : length (heard_in after) ≡ length seats = ap (λ (l : List Heard). length l) heard ∙ heard_many desk seats [] lone ∙ omega arith in
    let all : AllByRecursion (IsHeard opening book) (heard_with seats []) =
    subst (λ (o : History). AllByRecursion (IsHeard o book) (heard_with seats [])) takes.opening (subst (λ (l : List Heard). AllByRecursion (IsHeard (opening_in after) book) l) heard closed.heard) in
    let first : first_seat (opening_in after) ≡ first_seat opening = ap first_seat takes.opening in
    let number = takes.number in
    let whole : HasHeardAll (number_in after) (heard_in after) (opening_in after) book = closed.whole (takes.place ∙ last) (omega (arith, first, many, number, top)) in
    record {
      home = all_at_home opening book desk seats [] lone all;
      others = λ n none. dite (ℕ_discrete (number_in after) n)
          (λ own.
          let low : first_seat opening ≤ n = omega (arith, own, number, top) in
          ap (λ m. calls_of m book) (sym own) ∙ closed.calls ∙ takes.calls ∙ idle ∙ sym (none_from n opening low))
          (λ other.
          whole n other (subst (λ (l : List Heard). AllByRecursion (λ (h : Heard). h.number ≢ n) l) (sym heard) (heard_apart desk n seats [] lone none tt)) ∙ ap (calls_of n) takes.opening);
    }
