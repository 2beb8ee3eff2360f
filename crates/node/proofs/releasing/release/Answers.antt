use Rattle.std.proofs.Common.{◌≡◌, [], ◌∷◌, Option, Some, length, refl, sym, subst}
use Rattle.std.specs.Prelude.{slice_get}
use Rattle.std.proofs.lemmas.Option.{slice_get_read}
use Rattle.keys.specs.declared.compressed.Key.{Key}
use Rattle.desk.specs.Seats.{number_in, calls_in}
use Rattle.node.specs.Tasks.{releasing, task_for}
use Rattle.node.specs.Entering.{Adds}
use Rattle.node.proofs.Adding.{adds_nothing}
use Rattle.node.proofs.releasing.release.Goals as goal

pub returns-in_default-clause-calls : goal.returns-in_default-clause-calls
returns-in_default-clause-calls g c = adds_nothing (number_in c.args.seat.now) (task_for c.args.shared.now.payments.now c.args.due.now ∷ []) (calls_in c.args.seat.now) (calls_in c.args.seat.now) refl

pub returns-in_default-worth-clause-calls : goal.returns-in_default-worth-clause-calls
returns-in_default-worth-clause-calls g c = adds_nothing (number_in c.args.seat.now) (task_for c.args.shared.now.payments.now c.args.due.now ∷ []) (calls_in c.args.seat.now) (calls_in c.args.seat.now) refl

pub returns-clause-calls : goal.returns-clause-calls
returns-clause-calls g c =
    let payments = c.args.shared.now.payments.now in
    let due = c.args.due.now in
    let lookup = c.in-Some.ensures.lookup in
    let found : slice_get payments due.channel ≡ Some c.in-Some.payment.now = slice_get_read payments (length payments) due.channel c.in-Some.payment.now refl lookup.3.0 lookup.1 in
    subst (λ (key : Option Key). Adds (number_in c.args.seat.now) (releasing key due ∷ []) (calls_in c.args.seat.now) (calls_in c.release_to.new.seat)) (sym found) c.release_to.ensures.calls
