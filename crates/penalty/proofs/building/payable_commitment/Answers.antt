use Rattle.std.proofs.Common.{◌≡◌, sym, subst}
use Rattle.commit.specs.declared.errors.BuildError.TheVariants.{NoMemory, TooManyOutputs, ValueTooLarge}
use Rattle.penalty.specs.Outputs.{AreOutputs}
use Rattle.penalty.proofs.Standing.{no_memory, outputs_stand}
use Rattle.penalty.proofs.building.payable_commitment.Goals as goal

pub unreachable-requires : goal.unreachable-requires
unreachable-requires c =
    let e : c.in-Err.refusal ≡ NoMemory = no_memory c.args.terms.now c.args.view.now c.args.owner c.args.number c.args.point.now.bytes c.in-Err.refusal c.requires c.in-Err.ensures in
    let f : c.in-Err.refusal ≡ TooManyOutputs = c.in-TooManyOutputs.is in cc

pub unreachable-requires-in-ValueTooLarge : goal.unreachable-requires-in-ValueTooLarge
unreachable-requires-in-ValueTooLarge c =
    let e : c.in-Err.refusal ≡ NoMemory = no_memory c.args.terms.now c.args.view.now c.args.owner c.args.number c.args.point.now.bytes c.in-Err.refusal c.requires c.in-Err.ensures in
    let f : c.in-Err.refusal ≡ ValueTooLarge = c.in-ValueTooLarge.is in cc

pub returns-in-Ok-clause-outputs : goal.returns-in-Ok-clause-outputs
returns-in-Ok-clause-outputs c = subst AreOutputs (sym c.in-Ok.ensures.0) (outputs_stand c.args.terms.now c.args.view.now c.args.owner c.args.number c.args.point.now.bytes c.requires)
