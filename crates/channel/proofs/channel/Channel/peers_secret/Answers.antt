use Rattle.std.proofs.Common.{ap, arith, ◌∙◌, slice_get}
use Rattle.channel.specs.States.{State}
use Rattle.channel.proofs.Foreign.{numbered_at}
use Rattle.channel.proofs.channel.Channel.peers_secret.Goals as goal

pub returns : goal.returns
returns c =
    let i = c.self.inside in
    let n = c.args.number in
    c.get.ensures
    ∙ numbered_at i.secrets n (omega (arith, c.if-number-self.false, c.self.invariant.peer_number))
    ∙ ap (λ (s : State). slice_get s.secrets n) c.self.view_is
