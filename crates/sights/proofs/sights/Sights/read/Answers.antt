use Rattle.std.proofs.Common.{ap, sym, ◌∙◌}
use Rattle.sights.specs.declared.sighted.Sighted.{Sighted}
use Rattle.sights.specs.Marks.{is_marked}
use Rattle.sights.proofs.Marked.{more_marks, after_sighted}
use Rattle.sights.proofs.sights.Sights.read.Goals as goal

pub invariant_of-self : goal.invariant_of-self
invariant_of-self c =
    let old = c.self.inside.marks in
    let new = c.mark.new.self in
    let s : Sighted = record { height = c.args.height; stage = c.in-Some.stage; tx = c.args.confirmed.now } in
    after_sighted new.first.items new.second.items c.push.result c.self.inside.fundings c.self.inside.records c.push.new.self s c.push.ensures.ok c.push.ensures.err
    (ap (is_marked new.first.items new.second.items) (sym c.id.ensures) ∙ c.mark.ensures.here)
    (more_marks old.first.items old.second.items new.first.items new.second.items c.self.inside.fundings c.self.inside.records c.mark.ensures.others c.self.invariant)
