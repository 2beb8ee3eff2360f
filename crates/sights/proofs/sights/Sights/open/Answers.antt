use Rattle.sights.proofs.Marked.{more_marks, after_funding}
use Rattle.sights.proofs.sights.Sights.open.Goals as goal

pub invariant_of-self : goal.invariant_of-self
invariant_of-self c =
    let old = c.self.inside.marks in
    let new = c.mark.new.self in
    after_funding new.first.items new.second.items c.push.result c.self.inside.fundings c.push.new.self c.self.inside.records c.args.funding c.push.ensures.ok c.push.ensures.err c.mark.ensures.here
    (more_marks old.first.items old.second.items new.first.items new.second.items c.self.inside.fundings c.self.inside.records c.mark.ensures.others c.self.invariant)
