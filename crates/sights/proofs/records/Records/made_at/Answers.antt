use Rattle.std.proofs.Common.{sym, ap, ◌∙◌}
use Rattle.sights.specs.Sights.{made_at}
use Rattle.sights.proofs.Looked.{height_is, height_none}
use Rattle.sights.proofs.records.Records.made_at.Goals as goal

pub returns-in-Some : goal.returns-in-Some
returns-in-Some c =
    c.made_by.ensures
    ∙ height_is c.args.outpoint.now c.self.inside.sighted c.in-Some.origin.now (sym (c.self.invariant c.args.outpoint.now.txid) ∙ sym c.in-Some.ensures.value)
    ∙ ap (made_at c.args.outpoint.now) c.self.view_is

pub returns-in-None : goal.returns-in-None
returns-in-None c =
    height_none c.args.outpoint.now c.self.inside.sighted (sym (c.self.invariant c.args.outpoint.now.txid) ∙ sym c.in-None.ensures.value) ∙ ap (made_at c.args.outpoint.now) c.self.view_is
