use Rattle.std.proofs.Common.{Some, sym, ap, ◌∙◌}
use Rattle.sights.specs.Sights.{stage_at}
use Rattle.sights.proofs.Looked.{stage_is, stage_none}
use Rattle.sights.proofs.records.Records.stage_at.Goals as goal

pub returns-in-Some : goal.returns-in-Some
returns-in-Some c =
    ap Some c.stage_of.ensures ∙ stage_is c.args.id.now c.self.inside.sighted c.in-Some.origin.now (sym (c.self.invariant c.args.id.now) ∙ sym c.in-Some.ensures.value)
    ∙ ap (stage_at c.args.id.now) c.self.view_is

pub returns-in-None : goal.returns-in-None
returns-in-None c = stage_none c.args.id.now c.self.inside.sighted (sym (c.self.invariant c.args.id.now) ∙ sym c.in-None.ensures.value) ∙ ap (stage_at c.args.id.now) c.self.view_is
