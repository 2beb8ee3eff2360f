use Rattle.std.proofs.Common.{List, subst}
use Rattle.std.specs.Prelude.{IfOk}
use Rattle.scenario.specs.declared.events.Event.{Event}
use Rattle.desk.specs.Seats.{opening_in}
use Rattle.running.specs.Reports.{IsRun}
use Rattle.running.proofs.Reported.{reported}
use Rattle.running.proofs.runs.run_node.Goals as goal

pub returns : goal.returns
returns g c =
    let a = opening_in c.in_ok-a-2.a.closing_seat in
    let b = opening_in c.in_ok-b.b.closing_seat in
    let run = subst (λ (es : List Event). IfOk c.run_sides.result (IsRun a b c.len-channels.result es)) c.values-events.ensures c.run_sides.ensures in
    reported c.args.scenario.now c.in_ok-a.field-0 c.in_ok-a-2.a c.in_ok-b.b _ _ c.len-channels.result c.run_sides.result c.in_ok-a.ensures c.in_ok-a-2.ensures.opened c.in_ok-b.ensures.opened
    c.len-channels.ensures run
