use Rattle.std.proofs.Common.{◌≡◌, ◌+◌, None, refl, ap, sym, ◌∙◌}
use Rattle.crossbeam_channel.specs.Claims.{view}
use Rattle.desk.specs.Seats.{IsNewSeatOf}
use Rattle.desk.specs.declared.desk.Seat.{Seat}
use Rattle.desk.proofs.Seating.{longer, ends}
use Rattle.desk.proofs.desk.Desk.seat.Goals as goal

pub returns-clause-list : goal.returns-clause-list
returns-clause-list c =
    let idle = c.requires.pass.1 in
    let number : c.args.first + c.from.result ≡ c.args.first + c.args.k = ap (λ n. c.args.first + n) c.from.ensures in
    let new : IsNewSeatOf c.args.self.now (view c.args.pass).opening (record { number = c.args.first + c.from.result; pass = c.args.pass }) =
    record { seat_of = record { pass = c.requires.pass.0; old = idle.old; idle = idle.idle; live = idle.live; number = idle.number_is ∙ sym number }; made_with = idle.made_with; calls = idle.none; last = idle.seen; heard = idle.alone } in
    rw c.push_reserved.ensures.items (longer c.args.self.now (view c.args.pass).opening c.args.first c.args.k c.args.list.items (record { number = c.args.first + c.from.result; pass = c.args.pass }) c.requires.list.0 new number)

pub returns-clause-last : goal.returns-clause-last
returns-clause-last c =
    rw c.push_reserved.ensures.items (ends (λ (s : Seat). s.pass ≡ c.args.pass) None c.args.list.items (record { number = c.args.first + c.from.result; pass = c.args.pass }) refl)
