use Rattle.std.proofs.Common.{rules, ◌≡◌, ◌∷◌, [], List, All, map, sym, ap, ◌∙◌, subst, arith}
use Rattle.std.specs.Vec.Iter.{into_iter_items}
use Rattle.std.proofs.lemmas.List.{nil_from_length}
use Rattle.std.proofs.lemmas.List.Elements.{All-tail}
use Rattle.desk.specs.declared.desk.Seat.{Seat}
use Rattle.running.specs.declared.side_threads.Served.{Served}
use Rattle.running.specs.Threads.{HasServed, seat_in}
use Rattle.running.proofs.Homing.{taking_next, taking_done}
use Rattle.running.proofs.returned.absorb_side_seats.Goals as goal

pub loop-served-preserved : goal.loop-served-preserved
loop-served-preserved c =
    let side = c.args.side.now in
    let left = into_iter_items c.next.new.self in
    let e : into_iter_items c.loop-served.served-iterator ≡ c.in-Some.served ∷ left = search rules in
    let was = c.loop-served.invariant in
    record {
      served = All-tail (HasServed side) c.in-Some.served left (subst (All (HasServed side)) e was.served);
      closing_seat = taking_next side.desk c.args.closing_seat.now c.loop-served.closing_seat c.absorb.new.seat c.seat_in.result (map seat_in c.args.side_threads.items) (map seat_in (into_iter_items c.loop-served.served-iterator)) (map seat_in left)
          (ap (λ (l : List Served). map seat_in l) e ∙ ap (λ (x : Seat). x ∷ map seat_in left) (sym c.seat_in.ensures)) was.closing_seat c.absorb.ensures;
    }

pub returns : goal.returns
returns c =
    let rest = into_iter_items c.loop-served.served-iterator in
    let e : rest ≡ [] = nil_from_length rest (omega (arith, c.in-None.ensures.steps.0)) in
    taking_done c.args.side.now.desk c.args.closing_seat.now c.loop-served.closing_seat (map seat_in c.args.side_threads.items) (map seat_in rest) (ap (λ (l : List Served). map seat_in l) e) c.loop-served.invariant.closing_seat
