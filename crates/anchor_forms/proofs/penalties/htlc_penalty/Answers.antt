use Rattle.anchor_forms.proofs.Accepting.{never_refused, penalty_on}
use Rattle.anchor_forms.proofs.penalties.htlc_penalty.Goals as goal

pub unreachable-requires : goal.unreachable-requires
unreachable-requires c =
    never_refused c.args.revocation.now c.args.checked c.args.place c.in_ok-slots.slots.items c.in-Err.field-0 c.requires.form c.requires.program c.in_ok-slots.ensures.exact c.in-Err.ensures.accepted

pub returns : goal.returns
returns c = penalty_on c.args.revocation.now c.args.checked c.args.place c.in_ok-slots.slots.items c.in-Ok.claim c.in_ok-slots.ensures.exact c.in-Ok.ensures.accepted
