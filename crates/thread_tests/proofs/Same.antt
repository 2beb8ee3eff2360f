-- A seat that makes no call.
use Rattle.std.proofs.Common.{refl, ◌∙◌}
use Rattle.desk.specs.declared.desk.Desk.{Desk}
use Rattle.desk.specs.declared.desk.Seat.{Seat}
use Rattle.desk.specs.Seats.{IsSeatOf, HasSameCalls}

pub same_calls : (desk : Desk) (s : Seat) → IsSeatOf desk s → HasSameCalls desk s s
same_calls desk s is = record { seat_of = is; number = refl; opening = refl; place = refl; heard = refl; calls = refl }

pub still_same : (desk : Desk) (r s t : Seat) → HasSameCalls desk r s → HasSameCalls desk s t → HasSameCalls desk r t
still_same desk r s t one two = record {
  seat_of = two.seat_of;
  number = two.number ∙ one.number;
  opening = two.opening ∙ one.opening;
  place = two.place ∙ one.place;
  heard = two.heard ∙ one.heard;
  calls = two.calls ∙ one.calls;
}
