use Rattle.std.proofs.Common.{◌≡◌, ℕ, ◌*◌, ◌+◌, length, subst, arith}
use Rattle.running.specs.Threads.{ClosesAfter}
use Rattle.running.proofs.Seating.{board_seats_of}
use Rattle.running.proofs.Reported.{has_run}
use Rattle.running.proofs.runs.run_sides.Goals as goal

pub prepare_and_run-requires-clause-board_seats : goal.prepare_and_run-requires-clause-board_seats
prepare_and_run-requires-clause-board_seats g c lifetimes outlived =
    (board_seats_of c.in_ok-board.board (2 * c.args.workers + 3) c.in_ok-board.board_seats.items c.in_ok-board.ensures.seats, omega (arith, c.in_ok-board.ensures.seats.many))

pub returns : goal.returns
returns g c =
    let a = c.args.a in
    let b = c.args.b in
    let of_a = c.requires.a in
    let of_b = c.requires.b in
    let many_a : length a.resources.seats.items ≡ c.args.channels + c.args.workers + 2 = omega (arith, of_a.many) in
    let many_b : length b.resources.seats.items ≡ c.args.channels + c.args.workers + 2 = omega (arith, of_b.many) in
    has_run _ _ c.args.channels c.args.workers c.args.events.now c.in_ok-returned.returned c.report_of.result (subst (λ (n : ℕ). ClosesAfter a.side n a.closing_seat) many_a of_a.closing_seat)
    (subst (λ (n : ℕ). ClosesAfter b.side n b.closing_seat) many_b of_b.closing_seat) of_a.resources.payments of_b.resources.payments c.in_ok-returned.ensures c.report_of.ensures.a c.report_of.ensures.b c.report_of.ensures.channels c.report_of.ensures.outcomes
