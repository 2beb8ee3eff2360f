use Rattle.std.proofs.Common.{subst}
use Rattle.updates.specs.Stages.{part_of, Counts}
use Rattle.updates.specs.Steady.{Held, IsSteady}
use Rattle.updates.proofs.OneSide.{sound_at}
use Rattle.updates.proofs.Sharing.{part_at, part_may, view_at}
use Rattle.updates.proofs.ledger.Ledger.view_at.Goals as goal

pub view-requires-clause-own : goal.view-requires-clause-own
view-requires-clause-own c =
    let k = subst IsSteady c.self.view_is c.self.invariant.steady in
    let P : Held → Type 0 = λ h. Counts c.part.result (part_of c.args.own h.own) in
    part_at c.args.self.now.own c.part.result _ (subst P c.self.view_is c.part.ensures) (part_may c.args.own _ k.own)

pub view-requires-clause-theirs : goal.view-requires-clause-theirs
view-requires-clause-theirs c =
    let k = subst IsSteady c.self.view_is c.self.invariant.steady in
    let P : Held → Type 0 = λ h. Counts c.part-2.result (part_of c.args.theirs h.theirs) in
    part_at c.args.self.now.theirs c.part-2.result _ (subst P c.self.view_is c.part-2.ensures) (part_may c.args.theirs _ k.theirs)

pub returns-clause-value : goal.returns-clause-value
returns-clause-value c =
    let k = subst IsSteady c.self.view_is c.self.invariant.steady in
    let P : Held → Type 0 = λ h. Counts c.part.result (part_of c.args.own h.own) in
    let Q : Held → Type 0 = λ h. Counts c.part-2.result (part_of c.args.theirs h.theirs) in
    view_at c.view.result c.args.self.now c.part.result c.part-2.result _ _ (subst P c.self.view_is c.part.ensures) (subst Q c.self.view_is c.part-2.ensures) (part_may c.args.own _ k.own) (part_may c.args.theirs _ k.theirs) c.view.ensures

pub returns-clause-sound : goal.returns-clause-sound
returns-clause-sound c =
    let k = subst IsSteady c.self.view_is c.self.invariant.steady in
    sound_at c.args.self.now _ _ k (part_may c.args.own _ k.own) (part_may c.args.theirs _ k.theirs)
