use Rattle.std.proofs.Common.{◌≡◌, All, Some, refl, sym, ap, ◌∙◌, subst, arith}
use Rattle.std.proofs.lemmas.List.Elements.{All-pop}
use Rattle.book.specs.Books.{replay, fundings_of}
use Rattle.desk.specs.Histories.{History, first_seat}
use Rattle.desk.specs.Seats.{IsNewSeatOf, opening_in}
use Rattle.running.specs.Threads.{payments_in}
use Rattle.running.proofs.Seating.{last_number, last_is}
use Rattle.running.proofs.beginning.open_with.Goals as goal

pub returns-clause-opened : goal.returns-clause-opened
returns-clause-opened g c =
    let desk = c.in_ok-desk.desk in
    let seats = c.in_ok-desk.ensures.seats in
    let closing_seat = c.in-Some.closing_seat in
    let left = c.pop.new.self.items in
    let apart = All-pop (IsNewSeatOf desk c.args.book) c.in_ok-desk.seats.items left (Some closing_seat) c.in-Some.ensures.items seats.each in
    let new = apart.1 in
    let made : c.args.book ≡ opening_in closing_seat = sym new.made_with in
    record {
      made_with = new.made_with;
      closing_seat = record {
        new = record { seat_of = new.seat_of; made_with = refl; calls = new.calls; last = new.last ∙ made; heard = new.heard };
        last = last_is c.in_ok-desk.seats.items left closing_seat c.in-Some.ensures.items c.in_ok-desk.ensures.last;
        top = let number = last_number desk c.args.book (first_seat c.args.book) c.args.seats c.in_ok-desk.seats.items left closing_seat c.in-Some.ensures.items seats in
            let first = ap first_seat made in
            omega (arith, number, first);
      };
      resources = record {
        seats = subst (λ (h : History). All (IsNewSeatOf desk h) left) made apart.0;
        payments = c.requires.payments ∙ ap (λ (h : History). payments_in (replay h)) made;
        fundings = c.requires.fundings ∙ ap (λ (h : History). fundings_of (replay h)) made;
        queue = c.in_ok-sender.ensures.0;
        pass = c.in_ok-sender.ensures.1;
      };
      many = omega (arith, seats.many, c.in-Some.ensures.len);
    }
