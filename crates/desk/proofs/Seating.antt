-- A list of seats with one more seat.
use Rattle.std.proofs.Common.{◌≡◌, ℕ, ◌+◌, List, [], ◌∷◌, ◌++◌, Option, Some, IfSome, refl, sym, subst, ap, ◌∙◌, arith, length-append, add-one}
use Rattle.std.specs.List.{range_with_len, last_or}
use Rattle.std.proofs.lemmas.List.{map-append}
use Rattle.std.proofs.lemmas.List.Elements.{All-push}
use Rattle.desk.specs.declared.desk.Seat.{Seat}
use Rattle.desk.specs.declared.desk.Desk.{Desk}
use Rattle.desk.specs.Histories.{History}
use Rattle.desk.specs.Seats.{IsNewSeatOf, AreSeats}
use Rattle.desk.proofs.Parts.{numbers_longer}

pub longer : (desk : Desk) (opening : History) (first k : ℕ) (list : List Seat) (s : Seat) → AreSeats desk opening first k list → IsNewSeatOf desk opening s → s.number ≡ first + k → AreSeats desk opening first (k + 1) (list ++ s ∷ [])
longer desk opening first k list s old new number = record {
  each = All-push (IsNewSeatOf desk opening) list s old.each new;
  numbers = map-append (λ (x : Seat). x.number) list (s ∷ []) ∙ ap (λ l. l ++ s.number ∷ []) old.numbers ∙ ap (λ n. range_with_len first k ++ n ∷ []) number ∙ numbers_longer first k ∙ ap (range_with_len first) (sym (add-one k));
  many = omega (arith, length-append list (s ∷ []), old.many);
}

last_pushed : (o : Option Seat) (list : List Seat) (s : Seat) → last_or o (list ++ s ∷ []) ≡ Some s
last_pushed o [] s = refl
last_pushed o (x ∷ list) s = last_pushed (Some x) list s

pub ends : (P : Seat → Type 0) (o : Option Seat) (list : List Seat) (s : Seat) → P s → IfSome (last_or o (list ++ s ∷ [])) P
ends P o list s p = subst (λ l. IfSome l P) (sym (last_pushed o list s)) p
