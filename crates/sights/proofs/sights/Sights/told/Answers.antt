use Rattle.std.proofs.Common.{ap}
use Rattle.sights.specs.Sights.{Reading}
use Rattle.sights.proofs.Claimed.{told_close}
use Rattle.sights.proofs.sights.Sights.told.Goals as goal

pub returns-in-Some : goal.returns-in-Some
returns-in-Some c =
    told_close _ c.args.self.now.sighted c.self.inside.records c.values.result.now c.args.known.now c.in-Some.close.now c.tx.result.now c.verdict.result c.tell.result
    (ap (λ (r : Reading). r.sighted) c.self.view_is) c.values.ensures c.in-Some.ensures c.tx.ensures c.verdict.ensures c.tell.ensures
