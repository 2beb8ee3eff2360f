use Rattle.penalty.proofs.Accepting.{is_claim}
use Rattle.claim.specs.declared.parts.Shell.TheVariants.{Open}
use Rattle.unilateral.proofs.Opening.{never_refused}
use Rattle.unilateral.proofs.claiming.open_claim.Goals as goal

pub unreachable-requires : goal.unreachable-requires
unreachable-requires c =
    never_refused c.args.kind.now c.args.checked c.args.place c.in_ok-slots.slots.items c.path.result c.in-Err.field-0 c.requires c.in_ok-slots.ensures.exact c.path.ensures.value c.in-Err.ensures.accepted

pub returns : goal.returns
returns c = is_claim c.args.kind.now c.args.checked c.path.result c.in_ok-slots.slots.items c.args.place Open c.in-Ok.claim c.path.ensures.value c.in_ok-slots.ensures.exact c.in-Ok.ensures.accepted
