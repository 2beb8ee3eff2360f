use Rattle.std.proofs.Common.{sym, eq-eqb}
use Rattle.sights.proofs.Noted.{taken_away}
use Rattle.sights.proofs.origins.forget.Goals as goal

pub returns-then-origin-number : goal.returns-then-origin-number
returns-then-origin-number c = taken_away c.args.origins.now c.remove.new.self c.args.id.now c.args.number c.in-Some.origin.now (sym c.in-Some.ensures.value) (eq-eqb _ _ c.if-origin-number.true) c.remove.ensures.updates.0
