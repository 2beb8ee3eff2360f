use Rattle.claim.specs.Judgement.{bare_shell}
use Rattle.penalty.proofs.Accepting.{always_accepted, is_claim}
use Rattle.penalty.proofs.claiming.claim_of.Goals as goal

pub unreachable-requires : goal.unreachable-requires
unreachable-requires c =
    always_accepted c.args.kind.now c.args.checked c.path.result c.in_ok-slots.slots.items c.args.place (bare_shell c.args.shell) c.in-Err.field-0 c.path.ensures.value c.in_ok-slots.ensures.accepted
    c.requires.form c.requires.way c.requires.program c.in-Err.ensures.accepted

pub returns : goal.returns
returns c = is_claim c.args.kind.now c.args.checked c.path.result c.in_ok-slots.slots.items c.args.place c.args.shell c.in-Ok.claim c.path.ensures.value c.in_ok-slots.ensures.exact c.in-Ok.ensures.accepted
