use Rattle.std.proofs.Common.{sym, subst}
use Rattle.sights.proofs.Reading.{IsBelow}
use Rattle.sights.proofs.Marked.{fewer, up_to_below}
use Rattle.sights.proofs.sights.Sights.disconnect.Goals as goal

pub invariant_of-self : goal.invariant_of-self
invariant_of-self c =
    let old = c.self.inside in
    fewer old.marks.first.items old.marks.second.items old.fundings c.forget_above.new.self old.records
    (subst (λ xs. IsBelow xs old.records) (sym c.forget_above.ensures) (up_to_below c.args.height old.records)) c.self.invariant
