use Rattle.std.proofs.Common.{false, ap}
use Rattle.channel.specs.States.{State}
use Rattle.book.proofs.Numbered.{grown}
use Rattle.book.proofs.Keeping.{beside_revoked}
use Rattle.book.proofs.open_channel.OpenChannel.revoke.Goals as goal

pub invariant_of-self-2 : goal.invariant_of-self-2
invariant_of-self-2 c =
    let i = c.self.inside in
    beside_revoked (record { state = i.channel; kept = i.kept.items; closed = i.closed }) c.receive_revocation.new.self c.args.revocation.now.secret i.flags.items c.push.new.self.items i.below c.self.invariant
    (grown c.push.result c.unwrap.result c.push.new.self.items c.reserve.new.self.items i.flags.items false c.unwrap.ensures c.push.ensures.items c.in_ok-reserve.ensures.items)
    (ap (λ (s : State). s.secrets) c.in_ok-receive_revocation.ensures.ok)
