-- A seat that stays the same from one moment to the next stays so over both.
use Rattle.std.proofs.Common.{refl, ◌∙◌}
use Rattle.desk.specs.declared.desk.Desk.{Desk}
use Rattle.desk.specs.declared.desk.Seat.{Seat}
use Rattle.desk.specs.Seats.{IsSeatOf, IsSameSeat}

pub same : (desk : Desk) (s : Seat) → IsSeatOf desk s → IsSameSeat desk s s
same desk s of = record { seat_of = of; number = refl; opening = refl; place = refl; heard = refl }

pub still : (desk : Desk) (r s t : Seat) → IsSameSeat desk r s → IsSameSeat desk s t → IsSameSeat desk r t
still desk r s t a b = record { seat_of = b.seat_of; number = b.number ∙ a.number; opening = b.opening ∙ a.opening; place = b.place ∙ a.place; heard = b.heard ∙ a.heard }
