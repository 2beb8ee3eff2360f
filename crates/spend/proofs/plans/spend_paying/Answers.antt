use Rattle.std.proofs.Common.{◌≡◌, Some, sym, subst}
use Rattle.spend.specs.declared.errors.PlanError.{PlanError}
use Rattle.spend.specs.Planning.{spend_refusal, UnlessMemory}
use Rattle.spend.proofs.Planned.{refused, spent}
use Rattle.spend.proofs.plans.spend_paying.Goals as goal

pub returns-in-Ok : goal.returns-in-Ok
returns-in-Ok c = spent c.args.asked.now _ _ _ c.args.value_sat _ _ c.requires.lent c.in_ok-outputs.ensures c.values.ensures c.in-Ok.ensures

pub returns-in-Err : goal.returns-in-Err
returns-in-Err c =
    subst (λ (e : PlanError). UnlessMemory e (spend_refusal c.args.asked.now c.args.value_sat ≡ Some e)) (sym c.from.ensures)
    (refused c.args.asked.now _ _ _ c.args.value_sat c.in-Err.error c.requires.lent c.in_ok-outputs.ensures c.values.ensures c.in-Err.ensures)
