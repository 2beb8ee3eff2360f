use Rattle.std.proofs.Common.{ℕ, sym, ◌∙◌, subst}
use Rattle.desk.specs.Rule.{HasHeardAll}
use Rattle.desk.specs.Seats.{opening_in, heard_in}
use Rattle.desk.proofs.desk.Desk.close.Goals as goal

pub returns-clause-whole : goal.returns-clause-whole
returns-clause-whole g c last many =
    let seat = c.args.seat.now in
    let number = c.requires.number in
    subst (λ (n : ℕ). HasHeardAll n (heard_in seat) (opening_in seat) c.take.result) number (c.take.ensures.taken.whole last (many ∙ sym number))
